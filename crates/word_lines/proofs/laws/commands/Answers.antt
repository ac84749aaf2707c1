use Rattle.word_lines.proofs.CommandsAgain.{command_again}
use Rattle.word_lines.proofs.laws.commands.Goals as goal

pub returns : goal.returns
returns c = command_again
