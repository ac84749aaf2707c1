use Rattle.std.proofs.Common.{ap, sym, ◌∙◌, Some, None, cond, false, rules, ◌≡◌}
use Rattle.replica.proofs.Common.{is_at, key_cmp, list_any, lookup, nil_from_length, one_less}
use Rattle.std.specs.Prelude.{is_some, bytes_eq}
use Rattle.replica.specs.Rows.{is_among}
use Rattle.replica.proofs.Listed.{ArePutAt, listed_less, put_at_twice}
use Rattle.replica.proofs.index.Index.remove.Goals as goal

pub returns-then-is_empty : goal.returns-then-is_empty
returns-then-is_empty c =
    let found : lookup (is_at (key_cmp c.args.value)) c.self.inside.keys.entries ≡ Some c.in-Some.keys.now = sym c.in-Some.ensures.value in
    let put : ArePutAt c.self.inside.keys.entries (c.get_mut.follows.lender c.remove.new.self).entries c.args.value (Some c.remove.new.self) = ((c.get_mut.follows.holds c.remove.new.self).3 (ap is_some found)).0 in
    let out : ArePutAt c.self.inside.keys.entries c.remove-then-is_empty.new.self.entries c.args.value None = put_at_twice c.self.inside.keys.entries _ c.remove-then-is_empty.new.self.entries c.args.value _ None put c.remove-then-is_empty.ensures.updates.0 in
    rw (← c.self.view_is) (listed_less c.self.inside.keys.entries _ c.args.key.now c.args.value None out
    (λ y. sym (ap (list_any (is_at (key_cmp y))) (nil_from_length c.remove.new.self.keys (c.is_empty.ensures.0 (search rules)))) ∙ one_less c.args.key.now y _ _ (c.remove.ensures.updates.0 y) ∙ ap (λ o. cond (bytes_eq c.args.key.now y) false (is_among o y)) (sym found)))

pub returns : goal.returns
returns c =
    let found : lookup (is_at (key_cmp c.args.value)) c.self.inside.keys.entries ≡ Some c.in-Some.keys.now = sym c.in-Some.ensures.value in
    let put : ArePutAt c.self.inside.keys.entries (c.get_mut.follows.lender c.remove.new.self).entries c.args.value (Some c.remove.new.self) = ((c.get_mut.follows.holds c.remove.new.self).3 (ap is_some found)).0 in
    rw (← c.self.view_is) (listed_less c.self.inside.keys.entries _ c.args.key.now c.args.value (Some c.remove.new.self) put
    (λ y. one_less c.args.key.now y _ _ (c.remove.ensures.updates.0 y) ∙ ap (λ o. cond (bytes_eq c.args.key.now y) false (is_among o y)) (sym found)))
