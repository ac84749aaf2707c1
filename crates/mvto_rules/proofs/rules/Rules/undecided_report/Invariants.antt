use Rattle.mvto_rules.proofs.Telling.{IsTelling}
use Rattle.mvto_rules.proofs.rules.Rules.undecided_report.Given as goal

-- what is told of those before it
abbrev pub invariant-loop-ts : goal.invariant-loop-ts
invariant-loop-ts l = IsTelling l.self l.initial.ts-iterator l.ts-iterator l.reports.items
