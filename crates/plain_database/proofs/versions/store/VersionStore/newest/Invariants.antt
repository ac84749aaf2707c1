use Rattle.std.proofs.Common.{◌≡◌}
use Rattle.plain_database.proofs.Common.{newest}
use Rattle.plain_database.specs.VersionsTied.{version_in}
use Rattle.plain_database.proofs.versions.store.VersionStore.newest.Given as goal

-- no version above is passed over
abbrev pub invariant-loop-writer : goal.invariant-loop-writer
invariant-loop-writer l = newest (version_in l.self l.key) l.ts ≡ newest (version_in l.self l.key) l.through

abbrev pub decreases-loop-writer : goal.decreases-loop-writer
decreases-loop-writer l = l.through
