use Rattle.std.proofs.Common.{take, ◌≡◌}
use Rattle.std.specs.Prelude.{filter_map}
use Rattle.feed.specs.Standing.{report_at}
use Rattle.feed.proofs.report.reports_of.Given as goal

abbrev pub invariant-loop-number : goal.invariant-loop-number
invariant-loop-number l = l.reports.items ≡ filter_map (report_at l.live.entries) (take l.number-index l.numbers)
