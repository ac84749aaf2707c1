use Rattle.std.specs.Prelude.{reverse}
use Rattle.spans.proofs.Lawful.{lawful}
use Rattle.ticket_lock.specs.Seats.{seen}
use Rattle.shared_db.proofs.law.law_of_seats.Goals as goal

pub returns-clause-answered : goal.returns-clause-answered
returns-clause-answered c = λ first old new cmd event a. lawful (reverse (seen new)) a.legal

pub returns-clause-whole : goal.returns-clause-whole
returns-clause-whole c = λ db seats engine w. lawful (reverse w.history) w.legal
