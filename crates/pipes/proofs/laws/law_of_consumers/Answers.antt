use Rattle.pipes.proofs.Consumers.{takes_line}
use Rattle.pipes.proofs.laws.law_of_consumers.Goals as goal

pub returns : goal.returns
returns c = takes_line
