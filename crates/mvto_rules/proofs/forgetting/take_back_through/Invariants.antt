use Rattle.std.proofs.Common.{length, ◌+◌, ◌≡◌}
use Rattle.version_chain.specs.Stores.{HaveSameMarks}
use Rattle.mvto_rules.proofs.Closing.{IsTakingBack}
use Rattle.mvto_rules.proofs.forgetting.take_back_through.Given as goal

abbrev pub invariant-loop-ts : goal.invariant-loop-ts
invariant-loop-ts l = record {
  taking : IsTakingBack l.fn.store l.store l.txns l.to l.ts-iterator;
  marks : HaveSameMarks l.fn.store l.store;
  counted : l.count + length l.ts-iterator ≡ length l.initial.ts-iterator;
}
