use Rattle.pipes.proofs.GoingOn.{has_gone_on, rows_read}
use Rattle.pipes.proofs.laws.law_of_going_on.Goals as goal

pub returns-clause-read : goal.returns-clause-read
returns-clause-read c = rows_read

pub returns-clause-begins : goal.returns-clause-begins
returns-clause-begins c = has_gone_on
