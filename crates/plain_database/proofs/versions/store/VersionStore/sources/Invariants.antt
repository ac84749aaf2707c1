use Rattle.plain_database.proofs.SpanScans.{AreGiven}
use Rattle.plain_database.proofs.versions.store.VersionStore.sources.Given as goal

-- all but the keys that are left have their sources
abbrev pub invariant-loop-key : goal.invariant-loop-key
invariant-loop-key l = AreGiven l.self l.span l.ts l.key-iterator l.sources
