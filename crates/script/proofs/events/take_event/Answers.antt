use Rattle.std.proofs.lemmas.Result.{err_from_is_err_and}
use Rattle.script.proofs.TakeLines.{following_wants}
use Rattle.script.proofs.events.take_event.Goals as goal

pub returns-in_err-reply-clause-memory : goal.returns-in_err-reply-clause-memory
returns-in_err-reply-clause-memory c =
    let p = err_from_is_err_and c.from_residual-in_err-reply.result c.from_residual-in_err-reply.ensures.1 in
    rw (p.1, p.2) (λ is. following_wants c.args.format c.args.lines.now (c.in_ok-heading.heading, c.take_heading.new.lines) c.in_ok-heading.ensures.exact (c.in_err-reply.ensures.memory is))
