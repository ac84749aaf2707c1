use Rattle.mvto_rules.proofs.Walking.{IsSeeking}
use Rattle.mvto_rules.proofs.reading.first_blocker.Given as goal

-- nothing stopped the reader so far
abbrev pub invariant-loop-chain : goal.invariant-loop-chain
invariant-loop-chain l = IsSeeking l.store l.ts l.span l.chain-iterator
