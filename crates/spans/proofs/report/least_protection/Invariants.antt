use Rattle.std.proofs.Common.{◌≡◌, drop, map}
use Rattle.spans.specs.Report.{first_least, told_protection}
use Rattle.spans.proofs.report.least_protection.Given as goal

abbrev pub invariant-loop-protection : goal.invariant-loop-protection
invariant-loop-protection l = first_least l.least (map told_protection (drop l.protection-index l.protections)) ≡ first_least l.fn.limit (map told_protection l.protections)
