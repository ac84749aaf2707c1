use Rattle.std.proofs.Common.{ap, sym, ◌≡◌, ◌∙◌, ◌||◌, Some, None, rules}
use Rattle.replica.proofs.Common.{is_at, key_cmp, list_any, lookup, nil_from_length, one_more}
use Rattle.std.specs.Prelude.{bytes_eq, is_some}
use Rattle.spans.proofs.Results.{any_err}
use Rattle.replica.specs.Rows.{is_among}
use Rattle.replica.proofs.Listed.{ArePutAt, listed_more, listed_same}
use Rattle.replica.proofs.index.Index.add.Goals as goal

pub returns-in_err-insert-in-Some-clause-err : goal.returns-in_err-insert-in-Some-clause-err
returns-in_err-insert-in-Some-clause-err c =
    let found : lookup (is_at (key_cmp c.in_ok-copy.field-0)) c.self.inside.keys.entries ≡ Some c.in-Some.keys.now = sym c.in-Some.ensures.value in
    let put : ArePutAt c.self.inside.keys.entries (c.get_mut.follows.lender c.insert.new.self).entries c.in_ok-copy.field-0 (Some c.insert.new.self) = ((c.get_mut.follows.holds c.insert.new.self).3 (ap is_some found)).0 in
    rw (← c.self.view_is) (any_err c.from_residual-in_err-insert-in-Some.result (listed_same c.self.inside.keys.entries (c.get_mut.follows.lender c.insert.new.self).entries c.in_ok-copy.field-0 (Some c.insert.new.self) put
    (λ y. ap (list_any (is_at (key_cmp y))) c.in_err-insert-in-Some.ensures.err ∙ ap (λ o. is_among o y) (sym found))))

pub returns-in_ok-insert-in-Some-clause-ok : goal.returns-in_ok-insert-in-Some-clause-ok
returns-in_ok-insert-in-Some-clause-ok c =
    let found : lookup (is_at (key_cmp c.in_ok-copy.field-0)) c.self.inside.keys.entries ≡ Some c.in-Some.keys.now = sym c.in-Some.ensures.value in
    let put : ArePutAt c.self.inside.keys.entries (c.get_mut.follows.lender c.insert.new.self).entries c.in_ok-copy.field-0 (Some c.insert.new.self) = ((c.get_mut.follows.holds c.insert.new.self).3 (ap is_some found)).0 in
    rw (← c.self.view_is, ← c.in_ok-key.ensures.bytes, ← c.in_ok-copy.ensures.bytes) (listed_more c.self.inside.keys.entries (c.get_mut.follows.lender c.insert.new.self).entries c.in_ok-key.key c.in_ok-copy.field-0 (Some c.insert.new.self) put
    (λ y. one_more c.in_ok-key.key y _ _ (c.in_ok-insert-in-Some.ensures.updates.0 y) ∙ ap (λ o. bytes_eq c.in_ok-key.key y || is_among o y) (sym found)))

pub returns-in_ok-insert-in-None-2-clause-ok : goal.returns-in_ok-insert-in-None-2-clause-ok
returns-in_ok-insert-in-None-2-clause-ok c =
    let none : lookup (is_at (key_cmp c.in_ok-copy.field-0)) c.self.inside.keys.entries ≡ None = sym c.in-None.ensures.value in
    let same : c.get_mut.follows.lender-at-none.entries ≡ c.self.inside.keys.entries = search rules in
    let put : ArePutAt c.self.inside.keys.entries c.insert-in-None-2.new.self.entries c.in_ok-copy.field-0 (Some c.insert-in-None.new.self) = rw (← same) c.in_ok-insert-in-None-2.ensures.updates.0 in
    let is : c.match-branch-6.self ≡ c.insert-in-None-2.new.self.entries = search rules in
    rw (is, ← c.self.view_is, ← c.in_ok-key.ensures.bytes, ← c.in_ok-copy.ensures.bytes) (listed_more c.self.inside.keys.entries c.insert-in-None-2.new.self.entries c.in_ok-key.key c.in_ok-copy.field-0 (Some c.insert-in-None.new.self) put
    (λ y. one_more c.in_ok-key.key y _ _ (c.in_ok-insert-in-None.ensures.updates.0 y)
    ∙ ap (λ b. bytes_eq c.in_ok-key.key y || b) (ap (list_any (is_at (key_cmp y))) (nil_from_length c.new-keys.result.keys c.new-keys.ensures.len) ∙ sym (ap (λ o. is_among o y) none))))
