use Rattle.std.proofs.Common.{sym}
use Rattle.std.specs.Cmp.Lexicographic.{nat_list_cmp_total}
use Rattle.read_marks.proofs.Steps.{step_at-last, step_at-none, ComeFirst-before}
use Rattle.read_marks.proofs.span_marks.SpanMarks.latest_below.Goals as goal

pub returns-in-None-clause-latest : goal.returns-in-None-clause-latest
returns-in-None-clause-latest c =
    let first = ComeFirst-before nat_list_cmp_total c.args.start.now c.args.self.now.starts.entries c.range.ensures.ordered in
    sym (step_at-none _ 0 c.args.self.now.starts.entries _ first (c.range.ensures.between tt) c.in-None.ensures.steps.0)

pub returns-in-Some-clause-latest : goal.returns-in-Some-clause-latest
returns-in-Some-clause-latest c =
    let first = ComeFirst-before nat_list_cmp_total c.args.start.now c.args.self.now.starts.entries c.range.ensures.ordered in
    sym (step_at-last _ 0 c.args.self.now.starts.entries _ c.next_back.new.self (c.in-Some.field-0-0.now, c.in-Some.latest.now) first (c.range.ensures.between tt) c.in-Some.ensures.steps)
