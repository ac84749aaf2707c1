use Rattle.sessions.proofs.Making.{all_legal, all_spent}
use Rattle.sessions.proofs.callers.Callers.finish.Goals as goal

pub returns-clause-whole : goal.returns-clause-whole
returns-clause-whole c = let me = c.args.self in λ events made. all_legal me.db me.seats.items c.in-Ok.engine me.latest events c.in-Ok.ensures.ok.0 made

pub returns-clause-spent : goal.returns-clause-spent
returns-clause-spent c = let me = c.args.self in λ events made. all_spent me.db me.seats.items c.in-Ok.engine me.latest events c.in-Ok.ensures.ok.0 made
