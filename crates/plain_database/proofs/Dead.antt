-- How many versions die as a horizon goes one timestamp further, and that nothing but a collection changes how many are dead.
use Rattle.plain_database.proofs.Common.{After, AllAllowed, Effect, VersionName, and-true, closed_committed, closed_of, closed_version, committed_version_of, common_steps, dead_of, distinct_filter, eqb-true, fits_in, has_filter, has_versions, horizon_low, horizon_of, is_dead, is_delete, nat_tests, newest, newest_is, newest_same, version_of, version_wrote, versions_distinct, versions_of}
use Rattle.std.proofs.Common.{◌≡◌, ℕ, suc, ◌+◌, ◌-◌, ◌≤◌, ◌==◌, Bool, ◌&&◌, ◌||◌, List, [], ◌∷◌, length, Option, None, refl, sym, ◌∙◌, arith}
use Rattle.std.specs.Prelude.{filter, is_some, nat_le, nat_lt}
use Rattle.kept.proofs.AfterCollects.{dead_grows}
use Rattle.spans.specs.Effects.{Collects}
use Rattle.spans.proofs.Steps.{newest_reaches}
use Rattle.plain_database.specs.VersionsTied.{dead_then, newly_dead}
use Rattle.plain_database.proofs.Passed.{counted_by_key, counted_same, counts_three, keys_at, one_if, version_stays}

-- ---- the versions of one key

-- that of i is dead where the horizon is n: a delete, or older than another
abbrev dead_by : (ℕ → Option After) → ℕ → ℕ → Bool
dead_by f n i = nat_le i n && (is_some (f i) && (is_delete (f i) || nat_lt i (newest f n).ts))

-- as a horizon goes on by one timestamp, that of i dies where it is a delete that stands there, or the value that the one
-- there replaces
dies_at : (f : ℕ → Option After) → f 0 ≡ None → (n i : ℕ)
    → one_if (dead_by f (suc n) i) ≡ one_if (dead_by f n i) + (one_if ((i == suc n) && (is_some (f (suc n)) && is_delete (f (suc n)))) + one_if ((i == (newest f (suc n - 1)).ts) && (is_some (f (suc n)) && is_some (newest f (suc n - 1)).after)))
dies_at f zeroth n i = let one : suc n - 1 ≡ n = omega arith in let last = newest_is f n in rw one (grind (arith, common_steps, nat_tests, eqb-true i (suc n), newest_reaches f n i))

-- ---- the versions of a history

-- none stands at 0
none_zeroth : (p : List Effect) → AllAllowed p → (x : List ℕ) → version_of p x 0 ≡ None
none_zeroth [] all x = refl
none_zeroth (e ∷ p) all x = version_stays p e all x 0 (omega arith) ∙ none_zeroth p all.1 x

-- a version's name says as much of whether it is dead as the versions of its key, where the horizon isn't above closed
dead_as : (p : List Effect) → AllAllowed p → (m : ℕ) → m ≤ closed_of p → (v : VersionName) → (is_dead (Collects m ∷ p) v && is_some (version_of p v.key v.ts)) ≡ dead_by (version_of p v.key) m v.ts
dead_as p all m low v =
    let top = newest_same (committed_version_of p v.key) (version_of p v.key) m (λ i under. sym (closed_version p all v.key i (omega arith))) in
    grind (arith, common_steps, nat_tests, closed_committed p all v.key v.ts, version_wrote p v.key v.ts)

-- the version that t made of x is a delete
abbrev pub is_deleted : List Effect → ℕ → List ℕ → Bool
is_deleted p t x = is_delete (version_of p x t)

-- the newest version of x below t has a value
abbrev pub is_replaced : List Effect → ℕ → List ℕ → Bool
is_replaced p t x = is_some (newest (version_of p x) (t - 1)).after

-- how many die as a horizon reaches t: its deletes, and the values that its versions replace
abbrev pub dying : List Effect → ℕ → ℕ
dying p t = length (filter (is_deleted p t) (keys_at p t)) + length (filter (is_replaced p t) (keys_at p t))

-- so many more are dead where the horizon is one higher
pub dead_next : (p : List Effect) → AllAllowed p → (n : ℕ) → suc n ≤ closed_of p → length (dead_of (Collects (suc n) ∷ p)) ≡ length (dead_of (Collects n ∷ p)) + dying p (suc n)
dead_next p all n low =
    let deleted = counted_by_key p all (suc n) (λ x. suc n) (is_deleted p (suc n)) (λ x is so. is) in
    let replaced = counted_by_key p all (suc n) (λ x. (newest (version_of p x) (suc n - 1)).ts) (is_replaced p (suc n)) (λ x is so. let last = newest_is (version_of p x) (suc n - 1) in grind (arith, common_steps)) in
    counts_three (is_dead (Collects (suc n) ∷ p)) (is_dead (Collects n ∷ p)) (λ v. (v.ts == suc n) && (is_some (version_of p v.key (suc n)) && is_deleted p (suc n) v.key))
    (λ v. (v.ts == (newest (version_of p v.key) (suc n - 1)).ts) && (is_some (version_of p v.key (suc n)) && is_replaced p (suc n) v.key)) (versions_of p)
    (λ v i. let stands = (has_versions p all v).0 i in let now = rw (stands, and-true) at (dead_as p all n (omega arith) v) in let next = rw (stands, and-true) at (dead_as p all (suc n) low v) in
    rw (next, now) (rw stands at (dies_at (version_of p v.key) (none_zeroth p all v.key) n v.ts)))
    ∙ omega (arith, deleted, replaced)

-- none dies where the horizon stays
pub none_dies : (p : List Effect) (n : ℕ) → n ≡ horizon_of p → newly_dead p n ≡ 0
none_dies p n is = rw is (omega arith)

-- ---- what changes nothing

-- an effect that leaves the horizon leaves as many dead
dead_same : (p : List Effect) (e : Effect) → AllAllowed (e ∷ p) → horizon_of (e ∷ p) ≡ horizon_of p → length (dead_of (e ∷ p)) ≡ length (dead_of p)
dead_same p e all still = counted_same (e ∷ p) p all all.1 (is_dead (e ∷ p)) (is_dead p) (λ v.
    let same = λ (i : ℕ) (under : i ≤ horizon_of p). version_stays p e all v.key i (omega (arith, horizon_low p all.1)) in
    let top = newest_same (version_of (e ∷ p) v.key) (version_of p v.key) (horizon_of p) same in
    dead_as (e ∷ p) all (horizon_of (e ∷ p)) (horizon_low (e ∷ p) all) v ∙ rw still (grind (arith, common_steps, nat_tests, same v.ts)) ∙ sym (dead_as p all.1 (horizon_of p) (horizon_low p all.1) v))

-- so what the last collection left dead is what is dead
pub dead_then_is : (p : List Effect) → AllAllowed p → dead_then p ≡ length (dead_of p)
dead_then_is [] all = refl
dead_then_is (Collects n ∷ p) all = refl
dead_then_is (e ∷ p) all = dead_then_is p all.1 ∙ sym (dead_same p e all refl)

-- the dead stay dead
pub dead_rises : (p : List Effect) → AllAllowed p → (n : ℕ) → horizon_of p ≤ n → length (dead_of p) ≤ length (dead_of (Collects n ∷ p))
dead_rises p all n low = fits_in (dead_of p) (dead_of (Collects n ∷ p)) (distinct_filter (is_dead p) (versions_of p) (versions_distinct p all)) (λ v i.
    grind (arith, common_steps, has_filter (is_dead p) v (versions_of p), has_filter (is_dead (Collects n ∷ p)) v (versions_of p), dead_grows p n low v.key v.ts))
