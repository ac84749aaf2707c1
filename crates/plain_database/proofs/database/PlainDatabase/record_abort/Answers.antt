use Rattle.std.proofs.Common.{refl, arith}
use Rattle.plain_database.proofs.Common.{Abort, Aborted, common_steps, effects_of}
use Rattle.plain_database.proofs.Events.{stands_still, takes}
use Rattle.plain_database.proofs.VersionsTies.{tied_aborts}
use Rattle.plain_database.proofs.database.PlainDatabase.record_abort.Goals as goal

pub returns-in-Aborted : goal.returns-in-Aborted
returns-in-Aborted c = λ seat h n. rw c.in-Aborted.is (takes c.args.self.now _ h n seat (Abort c.args.ts) Aborted _ refl (λ tied all allowed.
    grind (arith, common_steps, tied_aborts c.args.self.now.versions (effects_of h) c.args.ts tied.versions allowed)))

pub returns-in_default : goal.returns-in_default
returns-in_default c = λ seat h n. stands_still c.args.self.now h n seat (Abort c.args.ts) c.args.reply.now (grind (arith, common_steps))
