-- A chain is searched for its first committed version after a place.
use Rattle.std.proofs.Common.{List, ℕ, ◌<◌, ◌≤◌}
use Rattle.version_chain.specs.declared.chain.Version.{Version}
use Rattle.catch_up.specs.Rows.{IsDue}

-- none is due up to there
pub record IsPassed (vs : List Version) (t through passed : ℕ) : Type 0 where
  pub from : t ≤ passed
  pub none : (i : ℕ) → IsDue vs t through i → passed < i
