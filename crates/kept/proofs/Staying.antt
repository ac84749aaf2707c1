-- What an effect leaves as it is.
use Rattle.kept.proofs.Common.{After, AllAllowed, Allowed, Commits, Effect, IsCrossed, IsKeptOf, Kept, Writes, by_test, closed_of, closed_stays, common_steps, horizon_low, horizon_of, is_committed, is_dead, kept_version, nat_tests, newest_same, version_name, version_of, write_of}
use Rattle.std.proofs.Common.{Bool, List, None, Option, ap, arith, cond, false, refl, ℕ, ◌<◌, ◌==◌, ◌∷◌, ◌≡◌, ◌≤◌}
use Rattle.std.specs.Prelude.{◌↔◌}
use Rattle.kept.specs.Changes.{IsAlike}
use Rattle.kept.proofs.Dead.{high_live, kept_above}
use Rattle.kept.proofs.Marking.{crossed_like}
use Rattle.kept.specs.Answered.{IsChangedBy}

-- at or below closed nothing changes
pub committed_stays : (p : List Effect) (d : Effect) → Allowed p d → (i : ℕ) → i ≤ closed_of p → is_committed (d ∷ p) i ≡ is_committed p i
committed_stays p (Commits t) allowed i low = let other : (t == i) ≡ false = grind (arith, nat_tests, allowed.above) in rw other refl
committed_stays p (_) allowed i low = refl

-- nor does what was written there
pub written_stays : (p : List Effect) (d : Effect) → Allowed p d → (x : List ℕ) (i : ℕ) → i ≤ closed_of p → write_of (d ∷ p) i x ≡ write_of p i x
written_stays p (Writes t y a) allowed x i low = let other : (t == i) ≡ false = grind (arith, nat_tests, allowed.0.above) in rw other refl
written_stays p (_) allowed x i low = refl

-- what is dead stays so, and nothing else becomes dead but by a collection
pub dead_stays : (p : List Effect) (d : Effect) → AllAllowed p → Allowed p d → horizon_of (d ∷ p) ≡ horizon_of p → (x : List ℕ) (i : ℕ) → is_dead (d ∷ p) (version_name x i) ≡ is_dead p (version_name x i)
dead_stays p d all allowed same x i = grind (arith, common_steps, by_test, horizon_low, committed_stays, written_stays, newest_same, closed_stays, high_live)

-- so where the horizon stays, what is kept changes by the versions alone
pub kept_stays : (p : List Effect) (d : Effect) → AllAllowed p → Allowed p d → horizon_of (d ∷ p) ≡ horizon_of p → (x : List ℕ) (i : ℕ) → kept_version (d ∷ p) x i ≡ cond (is_dead p (version_name x i)) None (version_of (d ∷ p) x i)
kept_stays p d all allowed same x i = ap (λ b. cond b None (version_of (d ∷ p) x i)) (dead_stays p d all allowed same x i)

-- the versions that are kept are crossed above closed as all versions are
pub crossed_kept : (p : List Effect) → AllAllowed p → (x : List ℕ) (m : ℕ → Bool) (f : ℕ → Option After) → ((n : ℕ) → f n ≡ kept_version p x n) → (i : ℕ) → closed_of p < i → IsCrossed m f i ↔ IsCrossed m (version_of p x) i
crossed_kept p all x m f same i above = grind (arith, common_steps, crossed_like, kept_above, horizon_low)

-- what is kept is like itself
pub alike_self : (k : Kept) → IsAlike k k
alike_self k = record { closed = refl; horizon = refl; version = λ y i. refl; committed = λ y i b e. refl; marked = λ y n. refl; transaction = λ i. refl; protections = refl; protections_made = refl; feed = λ f. refl; feeds_opened = refl }

-- what is alike is kept of the same
pub alike_kept : (k k' : Kept) (p : List Effect) → IsKeptOf k p → IsAlike k k' → IsKeptOf k' p
alike_kept k k' p fits c = grind (arith, common_steps)

-- where the effect is allowed and k' is k changed by it, k' is what is kept of the history with it
abbrev pub Keeps : (k k' : Kept) → List Effect → Effect → Type 0
Keeps k k' p d = AllAllowed p → IsKeptOf k p → Allowed p d → IsChangedBy k k' d → IsKeptOf k' (d ∷ p)
