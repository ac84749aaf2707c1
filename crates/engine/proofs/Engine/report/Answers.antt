use Rattle.std.proofs.Common.{ap, map, refl, reverse, sym, ◌∙◌}
use Rattle.engine.proofs.Common.{Standing, protection_report, protections_in}
use Rattle.kept.proofs.Reporting.{report_is}
use Rattle.engine.specs.Layers.{feeds_of, kept_of}
use Rattle.engine.proofs.Engine.report.Goals as goal

pub returns : goal.returns
returns c = λ h stands. report_is (kept_of c.args.self.now.layers) h _ stands.kept (record {
  closed = c.closed.ensures.closed;
  horizon = c.horizon.ensures;
  versions = (c.version_count.ensures.versions, c.version_count.ensures.all, sym c.version_count.ensures.count);
  removable = refl;
  transactions = c.in_ok-undecided_report.ensures (feeds_of c.args.self.now.layers.feeds);
  protections = c.in_ok-protections.ensures ∙ ap (λ (s : Standing). map protection_report (reverse (protections_in s))) c.closing.ensures;
  feeds = c.in_ok-report.ensures;
})
