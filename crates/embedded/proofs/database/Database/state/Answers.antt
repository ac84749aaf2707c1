use Rattle.std.proofs.Common.{false, ap, ◌++◌, ◌∙◌}
use Rattle.spans.proofs.ReportLimit.{report_limit}
use Rattle.report_lines.specs.Lines.{report_text}
use Rattle.embedded.proofs.database.Database.state.Goals as goal

pub returns : goal.returns
returns c = λ h held.
    let report = c.in_ok-report.report in
    let live = c.in_ok-report.ensures h held.stands in
    (report, live, report_limit h held.legal false report live, c.in_ok-write_report.ensures.ok ∙ ap (λ before. before ++ report_text report) c.new-text.ensures.items)
