-- From the horizon on, the version that what is kept tells of a key is that of the history.
use Rattle.std.proofs.Common.{List, None, Some, ap, arith, false, inl, inr, refl, sym, true, ℕ, ◌<◌, ◌∙◌, ◌≡◌, ◌≤◌, ◌⊎◌}
use Rattle.std.specs.Prelude.{is_some, nat_le, nat_lt}
use Rattle.std.proofs.lemmas.Grind.{common_steps}
use Rattle.engine.proofs.Common.{After, AllAllowed, Effect, IsKeptOf, Kept, both_ways, by_test, committed_is, committed_version_of, horizon_of, is_committed, is_dead, kept_committed, kept_value_version, left_newest, left_version_of, nat_tests, newest_fewer, newest_is, newest_reaches, newest_same, older_dead, value_at, version_name, version_wrote}
use Rattle.spans.specs.Versions.{Version, newest}
use Rattle.kept.proofs.Dead.{committed_stands, high_live, kept_is}
use Rattle.engine.specs.Looking.{known_version, value_version}

-- ---- what is kept

-- what is left isn't dead, and was committed
left_parts : (p : List Effect) (x : List ℕ) (j : ℕ) (a : After) → left_version_of p x j ≡ Some a → (is_dead p (version_name x j) ≡ false) × (is_committed p j ≡ true)
left_parts p x j a is = grind (arith, common_steps, committed_is)

-- a committed version is kept unless it is dead
pub left_is : (k : Kept) (p : List Effect) → AllAllowed p → IsKeptOf k p → (x : List ℕ) (j : ℕ) → kept_committed k x j ≡ left_version_of p x j
left_is k p all fits x j = grind (arith, common_steps, committed_stands, version_wrote, kept_is, fits.versions x j, fits.committed x j)

-- ---- what is left

none_left : (p : List Effect) (x : List ℕ) (j : ℕ) → committed_version_of p x j ≡ None → left_version_of p x j ≡ None
none_left p x j none = grind (arith, common_steps)

-- the newest that is left, where it has a value, is the newest that was committed
left_reaches : (p : List Effect) (x : List ℕ) (t : ℕ) → horizon_of p ≤ t → is_some (newest (committed_version_of p x) t).after ≡ true
    → (newest (left_version_of p x) t).ts ≡ (newest (committed_version_of p x) t).ts
left_reaches p x t high some = by_order (newest_is (left_version_of p x) t).has (newest_is (committed_version_of p x) t).has
  where
    l : ℕ
    l = (newest (left_version_of p x) t).ts

    c : ℕ
    c = (newest (committed_version_of p x) t).ts

    fewer : l ≤ c
    fewer = newest_fewer (committed_version_of p x) (left_version_of p x) t (λ j low none. none_left p x j none)

    valued : is_some (newest (left_version_of p x) t).after ≡ true
    valued = ap is_some (left_newest p x t high) ∙ some

    by_order : ((l ≡ 0) × ((newest (left_version_of p x) t).after ≡ None)) ⊎ ((0 < l) × (left_version_of p x l ≡ Some (newest (left_version_of p x) t).after))
        → ((c ≡ 0) × ((newest (committed_version_of p x) t).after ≡ None)) ⊎ ((0 < c) × (committed_version_of p x c ≡ Some (newest (committed_version_of p x) t).after)) → l ≡ c
    by_order (inl zeroth) has = let no : false ≡ true = sym (ap is_some zeroth.1) ∙ valued in cc
    by_order (inr here) (inl zeroth) = let no : false ≡ true = sym (ap is_some zeroth.1) ∙ some in cc
    by_order (inr here) (inr there) = by_test (nat_le c (horizon_of p))
        (λ low. let reach : c ≤ (newest (committed_version_of p x) (horizon_of p)).ts = newest_reaches (committed_version_of p x) (horizon_of p) c _ (grind (arith, nat_tests)) there.1 in
        by_test (nat_le c l)
        (λ is. let up : c ≤ l = grind (arith, nat_tests) in omega (arith, fewer, up))
        (λ isnt. absurd (let parts = left_parts p x l _ here.1 in both_ways _ parts.0 (older_dead p x l parts.1 (let under : l < c = grind (arith, nat_tests) in let bound : c ≤ horizon_of p = grind (arith, nat_tests) in omega (arith, under, bound)) (let under : l < c = grind (arith, nat_tests) in omega (arith, under, reach))))))
        (λ over. let up : c ≤ l = newest_reaches (left_version_of p x) t c (newest (committed_version_of p x) t).after (newest_is (committed_version_of p x) t).at_most (rw (high_live p x c over) there.1) in omega (arith, fewer, up))

-- ---- what is told

same_told : (m n : Version) → m.after ≡ n.after → (is_some n.after ≡ true → m.ts ≡ n.ts) → value_at m ≡ value_at n
same_told m n e same = grind (arith, common_steps)

pub told_is : (k : Kept) (p : List Effect) → AllAllowed p → IsKeptOf k p → (x : List ℕ) (t : ℕ) → horizon_of p ≤ t → kept_value_version k x t ≡ value_version p x t
told_is k p all fits x t high =
    ap value_at (newest_same (kept_committed k x) (left_version_of p x) t (λ j low. left_is k p all fits x j))
    ∙ same_told (newest (left_version_of p x) t) (newest (committed_version_of p x) t) (left_newest p x t high) (left_reaches p x t high)

-- from the horizon on the version is told
pub known_is : (p : List Effect) (x : List ℕ) (t : ℕ) → horizon_of p ≤ t → known_version p x t ≡ value_version p x t
known_is p x t high = let off : nat_lt t (horizon_of p) ≡ false = grind (arith, nat_tests) in rw off refl
