use Rattle.std.proofs.Common.{map, reverse, ◌∙◌, ◌≡◌}
use Rattle.std.proofs.lemmas.Result.{IfOk-weaker}
use Rattle.spans.specs.Report.{protection_report}
use Rattle.closing.specs.Standing.{entry_report, newest_first}
use Rattle.closing.proofs.Reports.{oldest_first}
use Rattle.closing.proofs.closing.Closing.protections.Goals as goal

pub returns : goal.returns
returns c = rw (← c.self.view_is) (IfOk-weaker c.protection_reports.result (λ ns. ns.items ≡ map entry_report c.self.inside.by_number.entries) (λ ns. ns.items ≡ map protection_report (reverse (newest_first c.self.inside.by_number.entries)))
    (λ ns told. told ∙ oldest_first c.self.inside.by_number.entries) c.protection_reports.ensures)
