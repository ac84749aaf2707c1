-- What is kept after a closing and after a hard closing.
use Rattle.kept.proofs.Marking.{marks_fewer}
use Rattle.kept.proofs.Common.{AllAllowed, Effect, HardCloses, IsKeptOf, Kept, and_parts, begun_among, begun_of, by_test, closed_grows, committed_is, committed_version_of, common_steps, decided_through, false_from_ne_true, is_undecided, kept_version, least_below, least_low, least_of, open_above, too_late, IsCrossed}
use Rattle.std.proofs.Common.{Bool, List, refl, None, Option, arith, false, true, Some, sym, map, ◌≡◌, ◌<◌, ◌≤◌, ◌-◌, ◌∷◌, ◌∙◌, ℕ, []}
use Rattle.std.specs.Prelude.{filter, ◌↔◌}
use Rattle.kept.specs.Finding.{is_open, reach, IsOldest}
use Rattle.kept.proofs.Staying.{kept_stays, Keeps}

-- the table says who is undecided
pub open_is : (k : Kept) (p : List Effect) → AllAllowed p → IsKeptOf k p → (t : ℕ) → is_open (k.transaction t) ≡ is_undecided p t
open_is k p all fits t = grind (arith, common_steps, by_test, false_from_ne_true, open_above)

-- what is at most each of the numbers is at most the least
least_above : (q : ℕ → Bool) (m n : ℕ) (ks : List ℕ) → m ≤ n → ((t : ℕ) → q t ≡ true → m ≤ t - 1) → m ≤ least_of n (map (λ t. t - 1) (filter q ks))
least_above q m n [] low h = low
least_above q m n (t ∷ ks) low h = grind (arith, common_steps, least_above q m n ks low h)

-- where nothing passes the test the least is the bound
least_all : (q : ℕ → Bool) (n : ℕ) (ks : List ℕ) → ((t : ℕ) → q t ≡ false) → least_of n (map (λ t. t - 1) (filter q ks)) ≡ n
least_all q n [] h = refl
least_all q n (t ∷ ks) h = rw (h t) (least_all q n ks h)

-- closing reaches as far as the history says
pub reach_is : (k : Kept) (p : List Effect) → AllAllowed p → IsKeptOf k p → (to : ℕ) (o : Option ℕ) → IsOldest k.transaction o → reach to o ≡ decided_through p to
reach_is k p all fits to None h = sym (least_all (is_undecided p) to (begun_of p) (λ t. sym (open_is k p all fits t) ∙ h t))
reach_is k p all fits to (Some o) h = grind (arith, common_steps, open_is, least_below, begun_among, and_parts, least_above, least_low)

-- after a hard closing
pub after_hard_closes : (k k' : Kept) (p : List Effect) (to n : ℕ) → Keeps k k' p (HardCloses to n)
after_hard_closes k k' p to n all fits allowed c = rw c.rest (grind (arith, common_steps, kept_now, marks_now, closed_grows))
  where
    kept_now : (y : List ℕ) (i : ℕ) → k'.version y i ≡ kept_version (HardCloses to n ∷ p) y i
    kept_now y i = grind (arith, common_steps, open_is k p all fits i, kept_stays p (HardCloses to n) all allowed refl y i)

    marks_now : (y : List ℕ) (i : ℕ) → n < i → committed_version_of p y i ≡ None → (too_late p y i ≡ true) ↔ IsCrossed (k'.marked y) (k'.version y) i
    marks_now y i above fresh =
        let b = marks_fewer k p all fits y (k'.version y) (λ w none. grind (arith, common_steps)) (λ w a high is there. grind (arith, common_steps, open_is k p all fits w, committed_is p y w a)) i (omega (arith, closed_grows p (HardCloses to n) allowed)) fresh in
        grind (arith, common_steps)
