use Rattle.std.proofs.Common.{refl, arith}
use Rattle.plain_database.proofs.Common.{Rows, Scan, common_steps, effects_of, on_ok_weaker}
use Rattle.plain_database.proofs.Events.{stands_still, takes}
use Rattle.plain_database.proofs.Scanning.{seen_is}
use Rattle.plain_database.proofs.VersionsTies.{tied_scans}
use Rattle.plain_database.proofs.database.PlainDatabase.record_scan.Goals as goal

pub returns-clause-ok : goal.returns-clause-ok
returns-clause-ok c = rw c.in-Rows.is (on_ok_weaker c.read.result (λ is. λ seat h n. takes c.args.self.now _ h n seat (Scan c.args.ts c.args.span.now) (Rows c.in-Rows.field-0) _ refl (λ tied all allowed.
    let given = tied_scans c.args.self.now.versions (effects_of h) c.args.ts c.args.span.now c.in_ok-sources.sources c.in-Rows.field-0 tied.versions allowed.0 (λ y on. grind (arith, common_steps, c.in_ok-sources.ensures y on, seen_is c.args.self.now.versions (effects_of h) tied.versions y c.args.ts)) in
    grind (arith, common_steps))) c.read.ensures.ok)

pub returns-in_default-clause-ok : goal.returns-in_default-clause-ok
returns-in_default-clause-ok c = λ seat h n. stands_still c.args.self.now h n seat (Scan c.args.ts c.args.span.now) c.args.reply.now (grind (arith, common_steps))
