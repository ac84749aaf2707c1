use Rattle.std.proofs.Common.{refl, arith}
use Rattle.plain_database.proofs.Common.{Found, Get, common_steps, effects_of, on_ok_weaker}
use Rattle.plain_database.proofs.Events.{stands_still, takes}
use Rattle.plain_database.proofs.Scanning.{seen_is}
use Rattle.plain_database.proofs.VersionsTies.{tied_reads}
use Rattle.plain_database.proofs.database.PlainDatabase.record_get.Goals as goal

pub returns-clause-ok : goal.returns-clause-ok
returns-clause-ok c = rw c.in-Found.is (on_ok_weaker c.read.result (λ is. λ seat h n. takes c.args.self.now _ h n seat (Get c.args.ts c.args.key.now) (Found c.in-Found.field-0) _ refl (λ tied all allowed.
    let at = seen_is c.args.self.now.versions (effects_of h) tied.versions c.args.key.now c.args.ts in
    grind (arith, common_steps, tied_reads c.args.self.now.versions (effects_of h) c.args.ts c.args.key.now c.in-Found.field-0 c.source-source.result tied.versions allowed.0))) c.read.ensures.ok)

pub returns-in_default-clause-ok : goal.returns-in_default-clause-ok
returns-in_default-clause-ok c = λ seat h n. stands_still c.args.self.now h n seat (Get c.args.ts c.args.key.now) c.args.reply.now (grind (arith, common_steps))
