-- The least floor is that of the first by floor.
use Rattle.std.proofs.Common.{Bool, None, Option, Some, arith, false, refl, sym, true, ℕ, ◌≡◌, ◌∙◌}
use Rattle.feed.proofs.Common.{IsLeastFloor, Place, eqb-true, is_gt, nat_tests, place_floor}
use Rattle.feed.specs.Standing.{is_floor, pair_cmp}

-- the set has just the floors of the feeds, each with its number
abbrev AreAlike : (ℕ × ℕ → Bool) → (ℕ → Option Place) → Type 0
AreAlike c g = (t f : ℕ) → c (t, f) ≡ is_floor (g f) t

floored : (o : Option Place) (t : ℕ) → is_floor o t ≡ true → (l : Place) × (o ≡ Some l) × (place_floor l ≡ t)
floored None t e = cc
floored (Some l) t e = (l, refl, eqb-true (place_floor l) t e)

pub none_live : (c : ℕ × ℕ → Bool) (g : ℕ → Option Place) → AreAlike c g → ((q : ℕ × ℕ) → c q ≡ false) → (f : ℕ) → g f ≡ None
none_live c g alike none f = by (g f) refl
  where
    by : (o : Option Place) → g f ≡ o → g f ≡ None
    by None is = is
    by (Some l) is = grind (arith, nat_tests, alike (place_floor l) f, none (place_floor l, f))

pub least_is : (c : ℕ × ℕ → Bool) (g : ℕ → Option Place) (first : ℕ × ℕ) → AreAlike c g → c first ≡ true → ((q : ℕ × ℕ) → c q ≡ true → is_gt (pair_cmp first q) ≡ false) → IsLeastFloor g (Some first.0)
least_is c g first alike has least =
    let l = floored (g first.1) first.0 (sym (alike first.0 first.1) ∙ has) in ((first.1, l.0, l.1, l.2), λ f place is. grind (arith, nat_tests, least (place_floor place, f), alike (place_floor place) f))
