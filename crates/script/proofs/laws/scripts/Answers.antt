use Rattle.script.proofs.ScriptLines.{script_again, script_behind}
use Rattle.script.proofs.laws.scripts.Goals as goal

pub returns-clause-whole : goal.returns-clause-whole
returns-clause-whole c = script_again

pub returns-clause-behind : goal.returns-clause-behind
returns-clause-behind c = script_behind
