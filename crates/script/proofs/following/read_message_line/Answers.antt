use Rattle.script.proofs.MessageLines.{message_told, message_refused}
use Rattle.script.proofs.following.read_message_line.Goals as goal

pub returns-in-Ok : goal.returns-in-Ok
returns-in-Ok c = message_told c.args.format c.args.line.now c.in_ok-text_of.field-0.now c.in-Ok.message c.in_ok-text_of.ensures c.in-Ok.ensures.found

pub returns-in-Err : goal.returns-in-Err
returns-in-Err c = rw c.read_error_of.ensures (message_refused c.args.format c.in-Err.fault c.args.line.now c.in_ok-text_of.field-0.now c.in_ok-text_of.ensures c.in-Err.ensures.whole)
