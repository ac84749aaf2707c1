use Rattle.std.proofs.Common.{◌-◌, ◌≤◌}
use Rattle.feed.proofs.room.count_left.Given as goal

abbrev pub invariant-loop-count : goal.invariant-loop-count
invariant-loop-count l = l.chunk ≤ l.max

abbrev pub decreases-loop-count : goal.decreases-loop-count
decreases-loop-count l = l.max - l.chunk
