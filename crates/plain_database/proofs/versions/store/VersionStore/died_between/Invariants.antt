use Rattle.std.proofs.Common.{◌≡◌, ◌+◌, ◌-◌, ◌^◌, ◌≤◌}
use Rattle.std.specs.Prelude.{min}
use Rattle.plain_database.specs.VersionsTied.{deaths_by}
use Rattle.plain_database.proofs.Walked.{between, total}
use Rattle.plain_database.proofs.versions.store.VersionStore.died_between.Given as goal

-- so many with those that are to come
abbrev pub invariant-loop-ts : goal.invariant-loop-ts
invariant-loop-ts l = record { fits : l.count ≤ 2 ^ 64 - 1; sum : min (l.count + total l.self (deaths_by l.self) l.ts-iterator) (2 ^ 64 - 1) ≡ min (total l.self (deaths_by l.self) (between l.low l.high l.self.table)) (2 ^ 64 - 1) }
