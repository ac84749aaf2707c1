use Rattle.std.proofs.Common.{arith}
use Rattle.plain_database.proofs.Common.{Collect, common_steps, legal_allowed}
use Rattle.plain_database.proofs.Dead.{dead_rises, dead_then_is}
use Rattle.plain_database.proofs.Events.{stands_still}
use Rattle.plain_database.proofs.database.PlainDatabase.record_collect.Goals as goal

pub returns-in-Collected : goal.returns-in-Collected
returns-in-Collected c = rw c.in-Collected.is (λ seat h n stands right. record { legal = (right, stands.legal); tied = grind (arith, common_steps, legal_allowed, dead_then_is, dead_rises) })

pub returns-in_default : goal.returns-in_default
returns-in_default c = λ seat h n. grind (arith, common_steps, stands_still c.args.self.now h n seat (Collect c.args.to) c.args.reply.now)
