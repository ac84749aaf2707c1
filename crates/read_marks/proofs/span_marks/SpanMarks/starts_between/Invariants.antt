use Rattle.std.proofs.Common.{◌≡◌, ◌++◌}
use Rattle.std.specs.Map.{keys_of}
use Rattle.read_marks.specs.Spans.{lent, starts_in}
use Rattle.read_marks.proofs.span_marks.SpanMarks.starts_between.Given as goal

abbrev pub invariant-loop-start : goal.invariant-loop-start
invariant-loop-start l = l.starts.items ++ keys_of l.start-iterator ≡ keys_of (starts_in l.lo (lent l.fn.hi) l.self.starts.entries)
