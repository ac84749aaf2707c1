use Rattle.std.proofs.Common.{◌∷◌, ap, refl, subst, sym}
use Rattle.std.specs.Fn.{CalledAt}
use Rattle.std.specs.List.Retain.{IsFiltered}
use Rattle.key_set.specs.Sets.{AreInOrder, keys_in}
use Rattle.key_set.proofs.Sets.{kept_rise, least_goes, least_stays, rising_is, whole_is}
use Rattle.key_set.proofs.set.KeySet.retain.Goals as goal

-- ---- the least key stays

pub invariant_of-self-else-not-stays : goal.invariant_of-self-else-not-stays
invariant_of-self-else-not-stays g c =
    let rising = rising_is c.self.inside.least c.in-Some.least c.self.inside.others.keys c.in-Some.is c.self.invariant in
    let asked = subst (λ b. CalledAt g.F.FnMut c.args.test c.in-Some.least b c.test-stays.new.self) c.if-not-stays.false (record { shown = _; shows = refl; called = c.test-stays.ensures }) in
    let kept = least_stays (CalledAt g.F.FnMut) c.args.test c.test-stays.new.self c.in-Some.least c.self.inside.others.keys c.free_empty.new.keys.keys asked (subst (IsFiltered (CalledAt g.F.FnMut) c.test-stays.new.self c.self.inside.others.keys) (sym c.free_empty.ensures) c.retain.ensures.filtered) in
    subst (λ o. AreInOrder o c.free_empty.new.keys.keys) (sym c.in-Some.is) (kept_rise (CalledAt g.F.FnMut) c.args.test _ _ rising kept)

pub returns-else-not-stays : goal.returns-else-not-stays
returns-else-not-stays g c =
    let whole = whole_is c.self.inside.least c.in-Some.least c.self.inside.others.keys c.args.self.now c.in-Some.is c.self.view_is in
    let asked = subst (λ b. CalledAt g.F.FnMut c.args.test c.in-Some.least b c.test-stays.new.self) c.if-not-stays.false (record { shown = _; shows = refl; called = c.test-stays.ensures }) in
    let kept = least_stays (CalledAt g.F.FnMut) c.args.test c.test-stays.new.self c.in-Some.least c.self.inside.others.keys c.free_empty.new.keys.keys asked (subst (IsFiltered (CalledAt g.F.FnMut) c.test-stays.new.self c.self.inside.others.keys) (sym c.free_empty.ensures) c.retain.ensures.filtered) in
    subst (λ l. IsFiltered (CalledAt g.F.FnMut) c.args.test l (keys_in c.self.inside.least c.free_empty.new.keys.keys)) whole
    (subst (IsFiltered (CalledAt g.F.FnMut) c.args.test (c.in-Some.least ∷ c.self.inside.others.keys)) (ap (λ o. keys_in o c.free_empty.new.keys.keys) (sym c.in-Some.is)) kept)

-- ---- it goes

pub put_next-requires : goal.put_next-requires
put_next-requires g c =
    let rising = rising_is c.self.inside.least c.in-Some.least c.self.inside.others.keys c.in-Some.is c.self.invariant in
    kept_rise (CalledAt g.F.FnMut) c.test-stays.new.self _ _ rising.1 (subst (IsFiltered (CalledAt g.F.FnMut) c.test-stays.new.self c.self.inside.others.keys) (sym c.free_empty.ensures) c.retain.ensures.filtered)

pub returns-then-not-stays : goal.returns-then-not-stays
returns-then-not-stays g c =
    let whole = whole_is c.self.inside.least c.in-Some.least c.self.inside.others.keys c.args.self.now c.in-Some.is c.self.view_is in
    let asked = subst (λ b. CalledAt g.F.FnMut c.args.test c.in-Some.least b c.test-stays.new.self) c.if-not-stays.true (record { shown = _; shows = refl; called = c.test-stays.ensures }) in
    let kept = least_goes (CalledAt g.F.FnMut) c.args.test c.test-stays.new.self c.in-Some.least c.self.inside.others.keys c.free_empty.new.keys.keys asked (subst (IsFiltered (CalledAt g.F.FnMut) c.test-stays.new.self c.self.inside.others.keys) (sym c.free_empty.ensures) c.retain.ensures.filtered) in
    subst (λ l. IsFiltered (CalledAt g.F.FnMut) c.args.test l (keys_in c.put_next.new.least c.put_next.new.others.keys)) whole
    (subst (IsFiltered (CalledAt g.F.FnMut) c.args.test (c.in-Some.least ∷ c.self.inside.others.keys)) (sym c.put_next.ensures.keys) kept)
