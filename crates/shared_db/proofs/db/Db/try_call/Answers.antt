use Rattle.std.proofs.Common.{subst}
use Rattle.shared_db.specs.Calls.{IsMade}
use Rattle.shared_db.proofs.Answering.{answered}
use Rattle.shared_db.proofs.db.Db.try_call.Goals as goal

pub returns-in-Ok-clause-event : goal.returns-in-Ok-clause-event
returns-in-Ok-clause-event c =
    answered c.args.self.now.lock.first c.args.seat.now c.try_turn.new.seat c.make.new.seat c.in-Ok.held.value c.in-Ok.held.ticket c.args.cmd c.make.new.event c.in-Ok.ensures.own c.in-Ok.ensures.ok c.make.ensures.same
    (subst (λ cmd. IsMade c.args.self.now.lock.first c.try_turn.new.seat c.in-Ok.held.ticket cmd c.make.new.event c.make.new.seat) c.unmade-event.ensures c.make.ensures.made)
