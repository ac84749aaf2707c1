use Rattle.std.proofs.Common.{true, false, map, ◌∙◌}
use Rattle.spans.specs.declared.report.Holder.TheVariants as holders
use Rattle.spans.specs.Report.{limit, told_protection, told_feed}
use Rattle.spans.proofs.ReportLimit.{report_limit, first_least-append}
use Rattle.spans.proofs.report.Report.limit.Goals as goal

pub returns-clause-exact : goal.returns-clause-exact
returns-clause-exact c = let r = c.args.self.now in cc (first_least-append (limit r.closed holders.Closed) (map told_protection r.protections.items) (map told_feed r.feeds.items))

pub returns-clause-whole : goal.returns-clause-whole
returns-clause-whole c = λ h legal is. returns-clause-exact c ∙ report_limit h legal true c.args.self.now is

pub returns-clause-live : goal.returns-clause-live
returns-clause-live c = λ h legal is. returns-clause-exact c ∙ report_limit h legal false c.args.self.now is
