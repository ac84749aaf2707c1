use Rattle.version_chain.specs.Records.{stored_of}
use Rattle.version_chain.proofs.Collecting.{IsThinning}
use Rattle.version_chain.proofs.store.Store.thin.Given as goal

abbrev pub invariant-loop-key : goal.invariant-loop-key
invariant-loop-key l = IsThinning l.fn.self (stored_of l.self-inside.chains) l.self-inside.index l.ts l.horizon l.self-inside.count l.self-inside.dropped_through l.key-iterator
