use Rattle.std.proofs.Common.{◌≡◌, drop, map}
use Rattle.spans.specs.Report.{first_least, told_feed}
use Rattle.spans.proofs.report.least_feed.Given as goal

abbrev pub invariant-loop-feed : goal.invariant-loop-feed
invariant-loop-feed l = first_least l.least (map told_feed (drop l.feed-index l.feeds)) ≡ first_least l.fn.limit (map told_feed l.feeds)
