use Rattle.std.proofs.Common.{subst}
use Rattle.embedded.specs.Embedded.{IsReadError}
use Rattle.embedded.specs.declared.database.CallError.{CallError}
use Rattle.embedded.proofs.TakenLines.{taken_faulty}
use Rattle.embedded.proofs.database.Database.take_line.Goals as goal

pub returns-in-Err-Fault-clause-taken : goal.returns-in-Err-Fault-clause-taken
returns-in-Err-Fault-clause-taken c h held =
    taken_faulty c.args.most h c.args.line.now c.args.self.now c.args.out.now c.code.result c.in-Err-Fault.fault held
    (subst (λ (e : CallError). IsReadError c.args.line.now e) c.in-Err-Fault.field-0-is c.in-Err-Fault.ensures.fault) c.code.ensures
