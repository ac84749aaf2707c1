use Rattle.std.proofs.Common.{reverse}
use Rattle.std.proofs.lemmas.Result.{IfOk-weaker}
use Rattle.spans.proofs.ReportLimit.{report_limit}
use Rattle.trace_check.proofs.TraceSteps.{turned_few}
use Rattle.trace_check.proofs.checker.Checker.report.Goals as goal

pub returns : goal.returns
returns c = record {
  report = IfOk-weaker c.report.result _ _
      (λ r told events taken few.
      let is = told (reverse events) taken.stands (turned_few events few) in
      (is, report_limit (reverse events) taken.stands.legal c.args.whole r is))
      c.report.ensures.report;
}
