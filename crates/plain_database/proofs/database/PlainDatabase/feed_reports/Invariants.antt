use Rattle.std.proofs.Common.{drop, reverse}
use Rattle.plain_database.specs.Tied.{AfterEach}
use Rattle.plain_database.proofs.Reporting.{AreSoFar}
use Rattle.plain_database.proofs.database.PlainDatabase.feed_reports.Given as goal

-- the reports of all feeds that came already
abbrev pub invariant-loop-record : goal.invariant-loop-record
invariant-loop-record l = AfterEach l.self (λ p. AreSoFar l.whole p (drop l.record-index l.record-items) (reverse l.reports.items))
