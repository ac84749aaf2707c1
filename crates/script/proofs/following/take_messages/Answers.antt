use Rattle.std.proofs.Common.{arith}
use Rattle.std.proofs.lemmas.Result.{err_from_is_err_and}
use Rattle.script.specs.EventLines.{message_line_at}
use Rattle.script.specs.Transcripts.{many_at}
use Rattle.script.proofs.TakeLines.{goes_on, ends, is_done, next_some}
use Rattle.script.proofs.following.take_messages.Goals as goal

pub returns-in_err-message-clause-exact : goal.returns-in_err-message-clause-exact
returns-in_err-message-clause-exact c =
    let p = err_from_is_err_and c.from_residual.result c.from_residual.ensures.1 in
    rw (p.1, p.2) (ends (message_line_at c.args.format) c.in_err-message.field-0.0 c.loop.messages.items c.args.count c.loop.counter c.loop.lines (many_at (message_line_at c.args.format) c.args.count c.args.lines.now) c.loop-test.true c.in_err-message.ensures.exact c.loop.invariant.0)

pub loop-preserved : goal.loop-preserved
loop-preserved c =
    let fewer = next_some (message_line_at c.args.format) c.loop.lines (c.in_ok-message.message, c.take_message.new.lines) c.in_ok-message.ensures.exact in
    (rw c.in_ok-push.ensures.items (goes_on (message_line_at c.args.format) c.loop.messages.items c.args.count c.loop.counter c.loop.lines c.in_ok-message.message c.take_message.new.lines (many_at (message_line_at c.args.format) c.args.count c.args.lines.now) c.loop-test.true c.in_ok-message.ensures.exact c.loop.invariant.0), omega (arith, fewer, c.loop.invariant.1))

pub returns-clause-exact : goal.returns-clause-exact
returns-clause-exact c = rw c.from_vec.ensures (is_done (message_line_at c.args.format) c.loop.messages.items c.args.count c.loop.counter c.loop.lines (many_at (message_line_at c.args.format) c.args.count c.args.lines.now) c.loop-test.false c.loop.invariant.0)
