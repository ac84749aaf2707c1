use Rattle.std.proofs.Common.{refl, arith}
use Rattle.plain_database.proofs.Common.{Begin, Started, common_steps, effects_of, on_ok_weaker}
use Rattle.plain_database.proofs.Events.{stands_still, takes}
use Rattle.plain_database.proofs.VersionsTies.{tied_begins}
use Rattle.plain_database.proofs.database.PlainDatabase.record_begin.Goals as goal

pub returns-in-Started-clause-ok : goal.returns-in-Started-clause-ok
returns-in-Started-clause-ok c = rw c.in-Started.is (on_ok_weaker c.begin.result (λ is. λ h n. takes c.args.self.now _ h n c.args.seat (Begin c.args.ts) Started _ refl (λ tied all allowed.
    grind (arith, common_steps, tied_begins c.args.self.now.versions (effects_of h) c.args.ts c.args.seat tied.versions allowed))) c.begin.ensures.ok)

pub returns-in_default-clause-ok : goal.returns-in_default-clause-ok
returns-in_default-clause-ok c = λ h n. stands_still c.args.self.now h n c.args.seat (Begin c.args.ts) c.args.reply.now (grind (arith, common_steps))
