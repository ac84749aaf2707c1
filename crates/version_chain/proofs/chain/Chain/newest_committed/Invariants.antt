use Rattle.std.proofs.Common.{ℕ, ◌≤◌, length}
use Rattle.version_chain.specs.Versions.{IsPlaceAbove}
use Rattle.version_chain.proofs.Chained.{IsTopBelow}
use Rattle.version_chain.proofs.chain.Chain.newest_committed.Given as goal

abbrev pub invariant-loop-place : goal.invariant-loop-place
invariant-loop-place l = record {
  within : l.place ≤ length l.self;
  top : (t : ℕ) → IsPlaceAbove l.self t l.end → IsTopBelow l.self t l.place;
}

abbrev pub decreases-loop-place : goal.decreases-loop-place
decreases-loop-place l = l.place
