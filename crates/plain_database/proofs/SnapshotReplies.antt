-- At or below closed what is visible is what is committed.
use Rattle.std.proofs.Common.{◌≡◌, ℕ, ◌≤◌, List, [], ◌∷◌, refl, arith}
use Rattle.plain_database.proofs.Common.{AllAllowed, Effect, closed_of, closed_value, committed_value, common_steps, pairs_of, visible}

-- the values of several keys
pub committed_pairs : (p : List Effect) → AllAllowed p → (t : ℕ) → t ≤ closed_of p → (xs : List (List ℕ)) → pairs_of (λ x. (visible p x t).after) xs ≡ pairs_of (λ x. committed_value p x t) xs
committed_pairs p all t low [] = refl
committed_pairs p all t low (x ∷ xs) = grind (arith, common_steps, closed_value, committed_pairs p all t low xs)
