use Rattle.std.proofs.Common.{◌≡◌, ◌∙◌, ◌+◌, ℕ, Option, take, drop, true, false, sym, subst, arith}
use Rattle.spans.proofs.Results.{any_err}
use Rattle.trace_check.specs.Traces.{StandsFor, IsFirstWrong, IsInPlace, MayLackIn}
use Rattle.trace_check.proofs.TraceSteps.{next_is, parts_at, wrong_at, wrong_is_no_trace, few_before}
use Rattle.trace_check.proofs.check.Goals as goal

pub loop-event-preserved : goal.loop-event-preserved
loop-event-preserved c =
    subst (StandsFor c.take.new.self) (sym (next_is c.args.events.now c.loop-event.event-index c.event-item.result c.loop-event-test.true c.event-item.is))
    (c.in_ok-take.ensures.taken c.if-not-branch.false (take c.loop-event.event-index c.args.events.now) c.loop-event.invariant (few_before c.args.events.now c.loop-event.event-index c.loop-event-test.true (omega arith)))

-- memory may be lacking at the event that found none
pub returns-in_err-take-clause-memory : goal.returns-in_err-take-clause-memory
returns-in_err-take-clause-memory c =
    let events = c.args.events.now in
    let before = take c.loop-event.event-index events in
    let wants = c.in_err-take.ensures.wanting before c.loop-event.invariant in
    let at : MayLackIn events = record {
      before = before;
      event = c.event-item.result;
      after = drop (c.loop-event.event-index + 1) events;
      parts = parts_at events c.loop-event.event-index c.event-item.result c.loop-event-test.true c.event-item.is;
      right = c.loop-event.invariant.trace;
      placed = subst (λ (last : Option ℕ). IsInPlace last c.event-item.result.position) c.loop-event.invariant.last c.in_err-take.ensures.placed;
      may = wants.0;
      accepted = wants.1 (few_before events c.loop-event.event-index c.loop-event-test.true (omega arith));
    } in
    any_err c.from_residual.result at

pub returns-then-not-branch : goal.returns-then-not-branch
returns-then-not-branch c =
    let events = c.args.events.now in
    let before = take c.loop-event.event-index events in
    let wrong : IsFirstWrong events c.event-item.result.position =
    wrong_at events c.loop-event.event-index c.event-item.result c.loop-event-test.true c.event-item.is c.loop-event.invariant.trace
    (λ trace. let clash : false ≡ true = sym c.if-not-branch.true ∙ (c.in_ok-take.ensures.right before c.loop-event.invariant (few_before events c.loop-event.event-index c.loop-event-test.true (omega arith))).1 trace in cc) in
    record {
      yes = (λ no. cc, λ trace. absurd (wrong_is_no_trace events c.event-item.result.position wrong trace));
      memory = tt;
      no = λ position is. let same : c.event-item.result.position ≡ position = cc in subst (IsFirstWrong events) same wrong;
    }
