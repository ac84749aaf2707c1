use Rattle.spelled_words.proofs.SpelledWords.{spelled_found, spelled_only}
use Rattle.spelled_words.proofs.laws.spellings.Goals as goal

pub returns-clause-read : goal.returns-clause-read
returns-clause-read c = spelled_found

pub returns-clause-written : goal.returns-clause-written
returns-clause-written c = spelled_only
