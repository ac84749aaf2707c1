use Rattle.std.proofs.Common.{ap, is_lt, sym, ◌∙◌}
use Rattle.read_marks.proofs.Raising.{backward}
use Rattle.read_marks.proofs.span_marks.SpanMarks.runs_forward.Goals as goal

pub returns-in-Some-clause-backward : goal.returns-in-Some-clause-backward
returns-in-Some-clause-backward c = λ off x. rw c.in-Some.is (backward c.args.lo.now c.in-Some.hi.now x (sym (c.is_lt.ensures ∙ ap is_lt c.cmp.ensures) ∙ off))
