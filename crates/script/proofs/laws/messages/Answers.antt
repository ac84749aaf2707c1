use Rattle.script.proofs.MessageLines.{message_found, message_only}
use Rattle.script.proofs.laws.messages.Goals as goal

pub returns-clause-read : goal.returns-clause-read
returns-clause-read c = message_found

pub returns-clause-written : goal.returns-clause-written
returns-clause-written c = message_only
