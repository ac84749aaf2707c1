use Rattle.json_lines.proofs.NumberWords.{number_found, number_only}
use Rattle.spelled_words.proofs.laws.number_words.Goals as goal

pub returns-clause-read : goal.returns-clause-read
returns-clause-read c = number_found

pub returns-clause-written : goal.returns-clause-written
returns-clause-written c = number_only
