-- What is kept at first, and who has not begun.
use Rattle.kept.proofs.Common.{Aborts, AllAllowed, Begins, Commits, Effect, HardCloses, IsKeptOf, common_steps, is_aborted, is_committed, owner_of}
use Rattle.std.proofs.Common.{List, None, [], arith, false, refl, ℕ, ◌∷◌, ◌≡◌}
use Rattle.kept.specs.StandsFor.{nothing_kept}

-- an engine that is new
pub new_is_kept : IsKeptOf nothing_kept []
new_is_kept = grind (arith, common_steps)

-- who has not begun has done nothing
pub record IsFresh (p : List Effect) (t : ℕ) : Type 0 where
  pub uncommitted : is_committed p t ≡ false
  pub unaborted : is_aborted p t ≡ false

-- a transaction that has not begun is fresh
pub unbegun : (p : List Effect) → AllAllowed p → (t : ℕ) → owner_of p t ≡ None → IsFresh p t
unbegun [] all t none = record { uncommitted = refl; unaborted = refl }
unbegun (Begins k seat ∷ p) all t none = grind (arith, common_steps, unbegun p all.1 t)
unbegun (Commits k ∷ p) all t none = grind (arith, common_steps, unbegun p all.1 t none)
unbegun (Aborts k ∷ p) all t none = grind (arith, common_steps, unbegun p all.1 t none)
unbegun (HardCloses to n ∷ p) all t none = grind (arith, common_steps, unbegun p all.1 t none)
unbegun (_ ∷ p) all t none = let h = unbegun p all.1 t none in record { uncommitted = h.uncommitted; unaborted = h.unaborted }
