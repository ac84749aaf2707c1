-- How far a collection goes.
use Rattle.std.proofs.Common.{ℕ, ◌≤◌, List, ◌∷◌, refl}
use Rattle.plain_database.proofs.Common.{AllAllowed, Collects, Effect, closed_of, collection_horizon, horizon_low}

pub collection_low : (p : List Effect) → AllAllowed p → (to : ℕ) → collection_horizon p to ≤ closed_of p
collection_low p all to = horizon_low (Collects (collection_horizon p to) ∷ p) ((to, refl), all)
