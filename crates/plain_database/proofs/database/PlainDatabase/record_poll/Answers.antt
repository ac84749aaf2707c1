use Rattle.std.proofs.Common.{arith}
use Rattle.plain_database.proofs.Common.{Poll, common_steps, legal_allowed, on_ok_weaker}
use Rattle.plain_database.proofs.Events.{stands_still}
use Rattle.plain_database.proofs.database.PlainDatabase.record_poll.Goals as goal

pub returns-in-Messages-clause-ok : goal.returns-in-Messages-clause-ok
returns-in-Messages-clause-ok c =
    rw c.in-Messages.is (on_ok_weaker c.tell.result (λ tells. λ seat max h n stands right. record { legal = (right, stands.legal); tied = grind (arith, common_steps, legal_allowed, tells max) }) c.tell.ensures.told)

pub returns-in_default : goal.returns-in_default
returns-in_default c = record { ok = λ seat max h n. grind (arith, common_steps, stands_still c.args.self.now h n seat (Poll c.args.feed max) c.args.reply.now); err = tt; memory = tt }
