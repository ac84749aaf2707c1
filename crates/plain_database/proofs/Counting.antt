-- How many versions there can be, and how many stand on both sides of closed.
use Rattle.std.proofs.Common.{◌≡◌, ℕ, ◌+◌, ◌<◌, ◌≤◌, ◌&&◌, List, [], ◌∷◌, length, Some, true, refl, inl, inr, arith}
use Rattle.std.specs.Prelude.{filter, is_some, nat_le, nat_lt}
use Rattle.restarts.proofs.InRange.{all_in_range}
use Rattle.spans.proofs.Histories.{effect_count}
use Rattle.spans.proofs.Members.{parted}
use Rattle.plain_database.proofs.Common.{After, AllAllowed, Collects, Effect, Event, Has, IsLegal, MAX, VersionName, Writes, among_has, begun_among, begun_of, closed_of, common_steps, dead_of, effects_of, fits_in, has_versions, is_dead, legal_allowed, nat_tests, same_key, version_name, versions_distinct, versions_of, write_of, wrote_begun}
use Rattle.plain_database.specs.VersionsTied.{passed_then, versions_between}
use Rattle.plain_database.proofs.Dead.{dead_then_is}
use Rattle.plain_database.proofs.Passed.{passed_is}

-- ---- how many there can be

written_names : List Effect → List VersionName
written_names [] = []
written_names (Writes t x a ∷ p) = version_name x t ∷ written_names p
written_names (_ ∷ p) = written_names p

names_few : (p : List Effect) → length (written_names p) ≤ length p
unfolding written_names
names_few [] = omega arith
names_few (Writes t x a ∷ p) = omega (arith, names_few p)
names_few (_ ∷ p) = omega (arith, names_few p)

has_written : (p : List Effect) (n : VersionName) (a : After) → write_of p n.ts n.key ≡ Some a → Has n (written_names p)
unfolding written_names
has_written [] n a is = cc
has_written (Writes k y b ∷ p) n a is = grind (arith, common_steps, nat_tests, same_key y n.key, has_written p n a)
has_written (_ ∷ p) n a is = has_written p n a is

-- what stands among the versions was written
was_written : (p : List Effect) → AllAllowed p → (n : VersionName) → Has n (versions_of p) → is_some (write_of p n.ts n.key) ≡ true
was_written p all n i = grind (arith, common_steps, (has_versions p all n).0 i)

-- there are no more versions than effects
pub versions_few : (p : List Effect) → AllAllowed p → length (versions_of p) ≤ length p
versions_few p all = omega (arith, names_few p, fits_in (versions_of p) (written_names p) (versions_distinct p all) each)
  where
    each : (n : VersionName) → Has n (versions_of p) → Has n (written_names p)
    each n i = grind (arith, common_steps, has_written p n, was_written p all n i)

-- and no more dead ones than versions
pub dead_few : (p : List Effect) → length (dead_of p) ≤ length (versions_of p)
dead_few p = omega (arith, parted (is_dead p) (versions_of p))

-- the count of the dead fits, also where a collection would take the horizon to n
pub dead_fit : (h : List Event) → IsLegal h → length h < 18446744073709551615 → (n : ℕ) → length (dead_of (Collects n ∷ effects_of h)) < 18446744073709551615
dead_fit h legal few n = grind (arith, dead_few (Collects n ∷ effects_of h), versions_few (effects_of h) (legal_allowed h legal), effect_count h)

-- ---- on both sides of closed

-- each stands at or below low or above it
both_sides : (low n : ℕ) (vs : List VersionName) → ((v : VersionName) → Has v vs → v.ts ≤ n) → length vs ≡ length (filter (λ (v : VersionName). nat_le v.ts low) vs) + length (filter (λ (v : VersionName). nat_lt low v.ts && nat_le v.ts n) vs)
both_sides low n [] each = refl
both_sides low n (v ∷ vs) each = grind (arith, common_steps, nat_tests, each v (inl refl), both_sides low n vs (λ w i. each w (inr i)))

in_range : (h : List Event) → IsLegal h → (v : VersionName) → Has v (versions_of (effects_of h)) → v.ts ≤ MAX
in_range h legal v i =
    let p = effects_of h in
    let all = legal_allowed h legal in
    grind (arith, common_steps, was_written p all v i, wrote_begun p all v.ts v.key, begun_among p v.ts, among_has v.ts (begun_of p), (all_in_range h legal).1 v.ts)

-- those that closed passed, and those above it
pub both_are : (h : List Event) → IsLegal h → length (versions_of (effects_of h)) ≡ passed_then (effects_of h) + versions_between (effects_of h) (closed_of (effects_of h)) 18446744073709551615
both_are h legal =
    let p = effects_of h in
    omega (arith, both_sides (closed_of p) 18446744073709551615 (versions_of p) (λ v i. omega (arith, in_range h legal v i)), passed_is p (legal_allowed h legal))

pub ruleset counting = (legal_allowed, effect_count, versions_few, dead_few, dead_then_is, both_are)
