use Rattle.std.proofs.Common.{ℕ, ◌+◌, ◌≤◌, length, get_or}
use Rattle.timestamps.specs.BinarySearch.{AreLeft}
use Rattle.read_marks.proofs.readers.Readers.count_through.Given as goal

abbrev pub invariant-loop-left : goal.invariant-loop-left
invariant-loop-left l = record {
  within : l.left.low + l.left.size ≤ length l.self.list.items;
  left : (d : ℕ) → AreLeft (λ k. get_or l.self.list.items k d) (length l.self.list.items) l.ts l.left.low l.left.size;
}

abbrev pub decreases-loop-left : goal.decreases-loop-left
decreases-loop-left l = l.left.size
