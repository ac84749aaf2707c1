-- What is dead, and what is kept.
use Rattle.kept.proofs.Common.{After, AllAllowed, Effect, IsKeptOf, Kept, committed_is, committed_version_of, common_steps, dead_is, false_from_ne_true, horizon_of, is_aborted, is_committed, is_dead, kept_version, nat_tests, not_both, version_name, version_of, write_of}
use Rattle.std.proofs.Common.{List, ap, refl, None, arith, false, Some, cond, ◌≡◌, ◌∙◌, ◌<◌, ℕ}
use Rattle.std.specs.Prelude.{nat_le}

-- a committed version is a version
pub committed_stands : (p : List Effect) → AllAllowed p → (x : List ℕ) (i : ℕ) (a : After) → committed_version_of p x i ≡ Some a → version_of p x i ≡ Some a
committed_stands p all x i a h = let c = committed_is p x i a h in rw (not_both p all i c.0) c.1

-- what is above the horizon isn't dead
pub high_live : (q : List Effect) (x : List ℕ) (i : ℕ) → nat_le i (horizon_of q) ≡ false → is_dead q (version_name x i) ≡ false
high_live q x i high = false_from_ne_true _ (λ is. let d = dead_is q x i is in grind (arith, nat_tests, d.low))

-- what an open transaction wrote isn't dead
pub open_live : (p : List Effect) (x : List ℕ) (t : ℕ) → is_committed p t ≡ false → is_dead p (version_name x t) ≡ false
open_live p x t open' = rw open' refl

-- so all that it wrote is kept
pub open_kept : (k : Kept) (p : List Effect) → IsKeptOf k p → (x : List ℕ) (t : ℕ) → is_committed p t ≡ false → is_aborted p t ≡ false → k.version x t ≡ write_of p t x
open_kept k p fits x t uncommitted unaborted = fits.versions x t ∙ ap (λ b. cond b None (version_of p x t)) (open_live p x t uncommitted) ∙ ap (λ b. cond b None (write_of p t x)) unaborted

-- where there is no version none is kept
pub no_kept : (p : List Effect) (x : List ℕ) (i : ℕ) → version_of p x i ≡ None → kept_version p x i ≡ None
no_kept p x i none = grind (arith, common_steps)

-- what is above the horizon is kept
pub kept_above : (p : List Effect) (x : List ℕ) (i : ℕ) → horizon_of p < i → kept_version p x i ≡ version_of p x i
kept_above p x i above = grind (arith, common_steps)

-- a kept version is a version
pub kept_is : (p : List Effect) (x : List ℕ) (i : ℕ) (a : After) → kept_version p x i ≡ Some a → version_of p x i ≡ Some a
kept_is p x i a h = grind (arith, common_steps)
