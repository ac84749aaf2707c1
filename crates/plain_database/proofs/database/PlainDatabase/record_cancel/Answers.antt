use Rattle.std.proofs.Common.{arith}
use Rattle.plain_database.proofs.Common.{common_steps}
use Rattle.plain_database.proofs.Events.{stands_still}
use Rattle.plain_database.specs.Prelude.{Cancel}
use Rattle.plain_database.proofs.database.PlainDatabase.record_cancel.Goals as goal

pub returns-in_default : goal.returns-in_default
returns-in_default c = λ seat h n. grind (arith, common_steps, stands_still c.args.self.now h n seat (Cancel c.args.feed) c.args.reply.now)
