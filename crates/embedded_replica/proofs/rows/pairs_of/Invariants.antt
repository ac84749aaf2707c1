use Rattle.std.proofs.Common.{◌≡◌, length}
use Rattle.embedded_replica.specs.Consumers.{pairs_at}
use Rattle.embedded_replica.proofs.PairLines.{behind}
use Rattle.embedded_replica.proofs.rows.pairs_of.Given as goal

abbrev pub invariant-loop-rest : goal.invariant-loop-rest
invariant-loop-rest l = behind l.rows.items (pairs_at l.rest) ≡ pairs_at l.text

abbrev pub decreases-loop-rest : goal.decreases-loop-rest
decreases-loop-rest l = length l.rest
