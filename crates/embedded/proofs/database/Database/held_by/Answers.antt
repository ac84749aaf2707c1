use Rattle.std.proofs.Common.{◌≡◌}
use Rattle.std.proofs.lemmas.Result.{IfOk-weaker}
use Rattle.embedded.specs.Looks.{AreHeldBy, held_in}
use Rattle.embedded.proofs.database.Database.held_by.Goals as goal

pub returns : goal.returns
returns c = λ h held. IfOk-weaker c.held_in.result (λ rows. rows.items ≡ held_in c.in_ok-report.report c.args.seat) (λ rows. AreHeldBy h c.args.seat rows.items)
    (λ rows is. (c.in_ok-report.report, c.in_ok-report.ensures h held.stands, is)) c.held_in.ensures
