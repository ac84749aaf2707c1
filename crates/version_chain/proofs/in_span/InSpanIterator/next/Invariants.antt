use Rattle.std.proofs.Common.{length, ◌≡◌}
use Rattle.version_chain.specs.ByNumber.{chains_in, entries_of}
use Rattle.version_chain.specs.Stores.{filled}
use Rattle.version_chain.proofs.in_span.InSpanIterator.next.Given as goal

abbrev pub invariant-loop-key : goal.invariant-loop-key
invariant-loop-key l = filled (entries_of l.self-inside.numbers (chains_in l.self-inside.records.now)) ≡ l.fn.self

abbrev pub decreases-loop-key : goal.decreases-loop-key
decreases-loop-key l = length l.self-inside.numbers
