use Rattle.pipes.proofs.Texts.{events_are, lines_keep, read_again, writable_says}
use Rattle.pipes.proofs.laws.law_of_texts.Goals as goal

pub returns-clause-events : goal.returns-clause-events
returns-clause-events c = events_are

pub returns-clause-lines : goal.returns-clause-lines
returns-clause-lines c = lines_keep

pub returns-clause-read : goal.returns-clause-read
returns-clause-read c = read_again

pub returns-clause-yes : goal.returns-clause-yes
returns-clause-yes c = writable_says
