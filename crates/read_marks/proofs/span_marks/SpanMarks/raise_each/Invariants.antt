use Rattle.std.proofs.Common.{◌≡◌, take}
use Rattle.spans.proofs.WriteSets.{has}
use Rattle.read_marks.specs.Spans.{raised}
use Rattle.read_marks.proofs.span_marks.SpanMarks.raise_each.Given as goal

abbrev pub invariant-loop-start : goal.invariant-loop-start
invariant-loop-start l = l.self.starts.entries ≡ raised (λ x. has x (take l.start-index l.starts)) l.ts l.fn.self.starts.entries
