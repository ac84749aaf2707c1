use Rattle.std.proofs.Common.{◌≡◌, ◌+◌, ◌-◌, ◌^◌, ◌≤◌}
use Rattle.std.specs.Prelude.{min}
use Rattle.plain_database.specs.VersionsTied.{deaths_by}
use Rattle.plain_database.proofs.versions.store.VersionStore.deaths_at.Given as goal

-- so many with those that are to come
abbrev pub invariant-loop-key : goal.invariant-loop-key
invariant-loop-key l = record { fits : l.count ≤ 2 ^ 64 - 1; sum : min (l.count + deaths_by l.self l.ts l.key-iterator) (2 ^ 64 - 1) ≡ min (deaths_by l.self l.ts l.begun.writes) (2 ^ 64 - 1) }
