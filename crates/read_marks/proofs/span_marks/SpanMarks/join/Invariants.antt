use Rattle.std.proofs.Common.{◌≡◌, ℕ, List}
use Rattle.read_marks.specs.Spans.{latest_in}
use Rattle.read_marks.proofs.span_marks.SpanMarks.join.Given as goal

abbrev pub invariant-loop : goal.invariant-loop
invariant-loop l = (x : List ℕ) → latest_in l.self x ≡ latest_in l.fn.self x
