use Rattle.replica.proofs.Testing.{AreRisingTo}
use Rattle.replica.proofs.seed.rise.Given as goal

abbrev pub invariant-loop-at : goal.invariant-loop-at
invariant-loop-at l = AreRisingTo l.rows l.at
