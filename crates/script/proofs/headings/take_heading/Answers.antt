use Rattle.std.proofs.Common.{sym}
use Rattle.std.proofs.lemmas.Result.{err_from_is_err_and}
use Rattle.script.proofs.LongParts.{answer_long}
use Rattle.script.proofs.headings.take_heading.Goals as goal

pub returns-in_err-shape-clause-memory : goal.returns-in_err-shape-clause-memory
returns-in_err-shape-clause-memory c =
    let p = err_from_is_err_and c.from_residual-in_err-shape.result c.from_residual-in_err-shape.ensures.1 in
    rw (p.1, p.2) (λ is. answer_long c.args.words.now c.take_number.new.words c.take_seat.new.words c.take_form.new.words c.in_ok-answer.answer c.in_ok-position.position c.in_ok-seat.seat c.in_ok-form.form
    c.in_ok-position.ensures.exact c.in_ok-seat.ensures c.in_ok-form.ensures (sym c.in_ok-answer.ensures) (c.in_err-shape.ensures.memory is))
