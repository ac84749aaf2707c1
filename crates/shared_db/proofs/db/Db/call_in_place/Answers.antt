use Rattle.shared_db.proofs.Answering.{answered}
use Rattle.shared_db.proofs.db.Db.call_in_place.Goals as goal

pub returns-clause-event : goal.returns-clause-event
returns-clause-event g c =
    answered c.args.self.now.lock.first c.args.seat.now c.turn.new.seat c.make.new.seat c.in_ok-held.held.value c.in_ok-held.held.ticket c.args.event.now.cmd c.make.new.event c.in_ok-held.ensures.own c.in_ok-held.ensures.ok c.make.ensures.same c.make.ensures.made
