use Rattle.std.proofs.Common.{length, refl, inl, ap, arith, Ok}
use Rattle.std.proofs.lemmas.Result.{err_from_is_err_and}
use Rattle.script.specs.Scripts.{ScriptWants, script_at}
use Rattle.script.proofs.ScriptLines.{begins, goes_on, stops, is_done, script_from, wants_call, wants_line, whatever_told, never_none, told_found}
use Rattle.script.proofs.scripts.read_script.Goals as goal

pub loop-line-init : goal.loop-line-init
loop-line-init c = (rw c.new-calls.ensures.items (begins c.args.format c.args.seats c.args.text.now c.below-lines.result c.below-lines.ensures), λ _. rw c.below-lines.ensures refl)

pub returns-in_default-clause-found : goal.returns-in_default-clause-found
returns-in_default-clause-found c = told_found c.args.format c.args.seats c.args.text.now (Ok c.loop-line.calls) (is_done c.args.format c.args.seats c.loop-line.calls.items c.loop-line.lines (script_at c.args.format c.args.seats c.args.text.now) c.in_default.ensures.0 c.loop-line.invariant.0)

pub returns-in_default-clause-exact : goal.returns-in_default-clause-exact
returns-in_default-clause-exact c = is_done c.args.format c.args.seats c.loop-line.calls.items c.loop-line.lines (script_at c.args.format c.args.seats c.args.text.now) c.in_default.ensures.0 c.loop-line.invariant.0

pub returns-in_err-call-clause-exact : goal.returns-in_err-call-clause-exact
returns-in_err-call-clause-exact c =
    let p = err_from_is_err_and c.from_residual.result c.from_residual.ensures.1 in
    rw (p.1, p.2)
    (stops c.args.format c.in_err-call.field-0.0 c.args.seats c.loop-line.calls.items c.loop-line.lines c.take_line.new.self c.number-number.result c.in-Some.line.now (script_at c.args.format c.args.seats c.args.text.now) c.in-Some.ensures.0 c.number-number.ensures c.in_err-call.ensures.exact c.loop-line.invariant.0)

pub returns-in_err-call-clause-memory : goal.returns-in_err-call-clause-memory
returns-in_err-call-clause-memory c =
    let p = err_from_is_err_and c.from_residual.result c.from_residual.ensures.1 in
    rw (p.1, p.2) (λ is. wants_line c.args.format c.args.seats c.args.text.now c.loop-line.calls.items c.loop-line.lines c.in-Some.line.now c.take_line.new.self.lines c.loop-line.invariant.0 c.loop-line.invariant.1 c.in-Some.ensures.0 (c.in_err-call.ensures.memory is))

pub returns-in_err-push-clause-memory : goal.returns-in_err-push-clause-memory
returns-in_err-push-clause-memory c =
    let total = script_at c.args.format c.args.seats c.args.text.now in
    let so_far =
    goes_on c.args.format c.args.seats c.loop-line.calls.items c.loop-line.lines c.take_line.new.self c.number-number.result c.in-Some.line.now c.in_ok-call.call total c.in-Some.ensures.0 c.in-Some.ensures.1 c.in_ok-call.ensures.exact c.loop-line.invariant.0 in
    whatever_told c.from_residual-in_err-push.result (ScriptWants c.args.format c.args.seats c.args.text.now) (inl (wants_call c.loop-line.calls.items c.in_ok-call.call (script_from c.args.format c.args.seats c.take_line.new.self) total so_far))

pub loop-line-smaller : goal.loop-line-smaller
loop-line-smaller c = omega (arith, ap length c.in-Some.ensures.0)

pub loop-line-preserved : goal.loop-line-preserved
loop-line-preserved c =
    rw c.in_ok-push.ensures.items (
      goes_on c.args.format c.args.seats c.loop-line.calls.items c.loop-line.lines c.take_line.new.self c.number-number.result c.in-Some.line.now c.in_ok-call.call (script_at c.args.format c.args.seats c.args.text.now) c.in-Some.ensures.0 c.in-Some.ensures.1 c.in_ok-call.ensures.exact c.loop-line.invariant.0,
      λ none. absurd (never_none c.loop-line.calls.items c.in_ok-call.call none),
    )
