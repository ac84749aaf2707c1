use Rattle.mvto_rules.specs.Holding.{holding}
use Rattle.mvto_rules.proofs.Replies.{abort_done, abort_refused}
use Rattle.mvto_rules.proofs.rules.Rules.abort.Goals as goal

pub returns-in-Err : goal.returns-in-Err
returns-in-Err c = record { step = λ k. abort_refused (holding k c.args.self.now) c.args.seat c.args.ts c.in-Err.refusal c.in-Err.ensures.err }

pub returns-in-Ok : goal.returns-in-Ok
returns-in-Ok c = record { step = λ k. abort_done (holding k c.args.self.now) (holding k c.take_back.new.self) c.args.seat c.args.ts c.in-Ok.ts c.in-Ok.ensures.ok c.in-Ok.ensures.none (c.take_back.ensures k) }
