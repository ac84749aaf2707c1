use Rattle.std.proofs.Common.{None}
use Rattle.version_chain.specs.Stores.{HaveSameMarks}
use Rattle.version_chain.specs.Records.{stored_of}
use Rattle.version_chain.proofs.Turns.{IsChanging}
use Rattle.version_chain.proofs.chains.Chains.remove_all.Given as goal

abbrev pub invariant-loop-key : goal.invariant-loop-key
invariant-loop-key l = record { changing : IsChanging (stored_of l.fn.self) (stored_of l.self) l.fn.keys l.key-iterator l.ts (λ _. None); marks : HaveSameMarks (stored_of l.fn.self) (stored_of l.self) }
