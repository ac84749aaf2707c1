use Rattle.std.proofs.Common.{refl, arith}
use Rattle.plain_database.proofs.Common.{Commit, Committed, common_steps, effects_of}
use Rattle.plain_database.proofs.Events.{stands_still, takes}
use Rattle.plain_database.proofs.VersionsTies.{tied_commits}
use Rattle.plain_database.proofs.database.PlainDatabase.record_commit.Goals as goal

pub returns-in-Committed : goal.returns-in-Committed
returns-in-Committed c = λ seat h n. rw c.in-Committed.is (takes c.args.self.now _ h n seat (Commit c.args.ts) (Committed c.in-Committed.keys) _ refl (λ tied all allowed.
    grind (arith, common_steps, tied_commits c.args.self.now.versions (effects_of h) c.args.ts tied.versions allowed)))

pub returns-in_default : goal.returns-in_default
returns-in_default c = λ seat h n. stands_still c.args.self.now h n seat (Commit c.args.ts) c.args.reply.now (grind (arith, common_steps))
