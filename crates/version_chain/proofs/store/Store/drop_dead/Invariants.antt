use Rattle.std.proofs.Common.{◌-◌}
use Rattle.version_chain.proofs.Collecting.{AreThinnedTo}
use Rattle.version_chain.proofs.store.Store.drop_dead.Given as goal

abbrev pub invariant-loop-ts : goal.invariant-loop-ts
invariant-loop-ts l = AreThinnedTo l.fn.self l.self l.from l.after l.horizon

abbrev pub decreases-loop-ts : goal.decreases-loop-ts
decreases-loop-ts l = l.horizon - l.after
