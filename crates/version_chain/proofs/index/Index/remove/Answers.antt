use Rattle.std.proofs.Common.{ap, sym, ◌∙◌, [], Some, None, cond, false, true, rules, subst, ◌≡◌}
use Rattle.std.specs.Prelude.{is_some, bytes_eq}
use Rattle.version_chain.proofs.Common.{both_ways, has, is_at, lookup, nat_cmp}
use Rattle.std.specs.Set.{remove_key}
use Rattle.version_chain.specs.declared.index.Index.{Index}
use Rattle.version_chain.specs.Indexes.{is_among}
use Rattle.version_chain.proofs.Indexes.{ArePutAt, listed_less, put_at_twice, none_before, none_taken, taken_alike}
use Rattle.version_chain.proofs.index.Index.remove.Goals as goal
use Rattle.version_chain.proofs.index.Index.remove.Goals.{else-remove-via-then-remove+else-is_empty, else-remove-via-else-remove}

pub returns-then-is_empty-clause-listed : goal.returns-then-is_empty-clause-listed
returns-then-is_empty-clause-listed c =
    let found : lookup (is_at (nat_cmp c.args.ts)) c.args.self.now.keys.entries ≡ Some c.in-Some.keys.now = sym c.in-Some.ensures.value in
    let put : ArePutAt c.args.self.now.keys.entries (c.get_mut.follows.lender c.remove.new.self).entries c.args.ts (Some c.remove.new.self) = ((c.get_mut.follows.holds c.remove.new.self).3 (ap is_some found)).0 in
    let out : ArePutAt c.args.self.now.keys.entries c.remove-then-is_empty.new.self.entries c.args.ts None = put_at_twice c.args.self.now.keys.entries _ c.remove-then-is_empty.new.self.entries c.args.ts _ None put c.remove-then-is_empty.ensures.updates.0 in
    listed_less c.args.self.now.keys.entries _ c.args.key.now c.args.ts None out
    (λ y. sym (ap (has y) (c.is_empty.ensures.0 (search rules))) ∙ c.remove.ensures.other_keys y ∙ ap (λ o. cond (bytes_eq c.args.key.now y) false (is_among o y)) (sym found))

pub returns-then-is_empty-clause-taken : goal.returns-then-is_empty-clause-taken
returns-then-is_empty-clause-taken c =
    let found : lookup (is_at (nat_cmp c.args.ts)) c.args.self.now.keys.entries ≡ Some c.in-Some.keys.now = sym c.in-Some.ensures.value in
    let put : ArePutAt c.args.self.now.keys.entries (c.get_mut.follows.lender c.remove.new.self).entries c.args.ts (Some c.remove.new.self) = ((c.get_mut.follows.holds c.remove.new.self).3 (ap is_some found)).0 in
    let out : ArePutAt c.args.self.now.keys.entries c.remove-then-is_empty.new.self.entries c.args.ts None = put_at_twice c.args.self.now.keys.entries _ c.remove-then-is_empty.new.self.entries c.args.ts _ None put c.remove-then-is_empty.ensures.updates.0 in
    taken_alike c.args.self.now.keys.entries c.remove-then-is_empty.new.self.entries c.args.ts None out (
      λ taken. absurd (
          let none : c.in-Some.keys.now ≡ [] = none_taken c.args.self.now.keys.entries c.args.ts c.in-Some.keys.now found taken in
          let no : false ≡ true = sym (c.remove.ensures.found ∙ ap (has c.args.key.now) none) ∙ c.if-remove.true in (let n : false ≡ true = no in cc)),
      λ no. cc,
    )

-- where the entry stays
stays : (c : goal.Joined-else-remove) → c.else-remove.self.keys.entries ≡ (c.get_mut.follows.lender c.remove.new.self).entries
stays c = elim c.else-remove.branch [
  | else-remove-via-then-remove+else-is_empty w ↦ ap (λ (index : Index). index.keys.entries) w.self-is
  | else-remove-via-else-remove w ↦ ap (λ (index : Index). index.keys.entries) w.self-is
]

placed : (c : goal.Joined-else-remove) → ArePutAt c.args.self.now.keys.entries c.else-remove.self.keys.entries c.args.ts (Some c.remove.new.self)
placed c =
    let found : lookup (is_at (nat_cmp c.args.ts)) c.args.self.now.keys.entries ≡ Some c.in-Some.keys.now = sym c.in-Some.ensures.value in
    subst (λ es. ArePutAt c.args.self.now.keys.entries es c.args.ts (Some c.remove.new.self)) (sym (stays c)) ((c.get_mut.follows.holds c.remove.new.self).3 (ap is_some found)).0

pub returns-else-remove-clause-listed : goal.returns-else-remove-clause-listed
returns-else-remove-clause-listed c =
    let found : lookup (is_at (nat_cmp c.args.ts)) c.args.self.now.keys.entries ≡ Some c.in-Some.keys.now = sym c.in-Some.ensures.value in
    listed_less c.args.self.now.keys.entries c.else-remove.self.keys.entries c.args.key.now c.args.ts (Some c.remove.new.self) (placed c)
    (λ y. c.remove.ensures.other_keys y ∙ ap (λ o. cond (bytes_eq c.args.key.now y) false (is_among o y)) (sym found))

-- and has keys, unless it had none
was_empty : (c : goal.Joined-else-remove) → c.remove.new.self ≡ [] → c.in-Some.keys.now ≡ []
was_empty c none = elim c.else-remove.branch [
  | else-remove-via-then-remove+else-is_empty w ↦ absurd (both_ways _ w.if-is_empty.false (w.is_empty.ensures.1 none))
  | else-remove-via-else-remove w ↦ none_before c.args.key.now c.in-Some.keys.now c.remove.new.self (sym c.remove.ensures.found ∙ w.if-remove.false) c.remove.ensures.other_keys none
]

pub returns-else-remove-clause-taken : goal.returns-else-remove-clause-taken
returns-else-remove-clause-taken c =
    let found : lookup (is_at (nat_cmp c.args.ts)) c.args.self.now.keys.entries ≡ Some c.in-Some.keys.now = sym c.in-Some.ensures.value in
    taken_alike c.args.self.now.keys.entries c.else-remove.self.keys.entries c.args.ts (Some c.remove.new.self) (placed c) (
      λ taken.
          let none : c.in-Some.keys.now ≡ [] = none_taken c.args.self.now.keys.entries c.args.ts c.in-Some.keys.now found taken in
          ap Some (c.remove.ensures.keys ∙ ap (remove_key (λ y. bytes_eq y c.args.key.now)) none),
      λ is. let none : c.remove.new.self ≡ [] = cc in found ∙ ap Some (was_empty c none),
    )
