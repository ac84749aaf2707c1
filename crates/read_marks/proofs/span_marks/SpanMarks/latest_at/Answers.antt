use Rattle.std.proofs.Common.{refl, sym}
use Rattle.read_marks.proofs.Common.{nat_list_cmp_total, nil_from_length}
use Rattle.read_marks.proofs.Steps.{step_at-last, step_at-none, ComeFirst-reached}
use Rattle.read_marks.proofs.span_marks.SpanMarks.latest_at.Goals as goal

pub returns-then-is_empty : goal.returns-then-is_empty
returns-then-is_empty c = rw (nil_from_length c.args.self.now.starts.entries (c.is_empty.ensures.0 c.if-is_empty.true)) refl

pub returns-in-None : goal.returns-in-None
returns-in-None c =
    let first = ComeFirst-reached nat_list_cmp_total c.args.place.now c.args.self.now.starts.entries c.range.ensures.ordered in
    sym (step_at-none _ 0 c.args.self.now.starts.entries _ first (c.range.ensures.between tt) c.in-None.ensures.steps.0)

pub returns-in-Some : goal.returns-in-Some
returns-in-Some c =
    let first = ComeFirst-reached nat_list_cmp_total c.args.place.now c.args.self.now.starts.entries c.range.ensures.ordered in
    sym (step_at-last _ 0 c.args.self.now.starts.entries _ c.next_back.new.self (c.in-Some.field-0-0.now, c.in-Some.latest.now) first (c.range.ensures.between tt) c.in-Some.ensures.steps)
