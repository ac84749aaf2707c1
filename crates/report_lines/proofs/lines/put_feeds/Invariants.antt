use Rattle.std.proofs.Common.{◌≡◌, ◌++◌, take}
use Rattle.report_lines.proofs.Common.{flat_map}
use Rattle.report_lines.specs.Lines.{feed_line}
use Rattle.report_lines.proofs.lines.put_feeds.Given as goal

abbrev pub invariant-loop-feed : goal.invariant-loop-feed
invariant-loop-feed l = l.out.items ≡ l.fn.out.items ++ flat_map (feed_line l.closed) (take l.feed-index l.feeds)
