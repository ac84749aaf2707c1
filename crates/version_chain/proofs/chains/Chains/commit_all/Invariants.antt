use Rattle.std.specs.Prelude.{option_map}
use Rattle.version_chain.specs.Versions.{as_committed}
use Rattle.version_chain.specs.Stores.{HaveSameMarks}
use Rattle.version_chain.specs.Records.{stored_of}
use Rattle.version_chain.proofs.Turns.{IsChanging}
use Rattle.version_chain.proofs.chains.Chains.commit_all.Given as goal

abbrev pub invariant-loop-key : goal.invariant-loop-key
invariant-loop-key l = record { changing : IsChanging (stored_of l.fn.self) (stored_of l.self) l.fn.keys l.key-iterator l.ts (option_map as_committed); marks : HaveSameMarks (stored_of l.fn.self) (stored_of l.self) }
