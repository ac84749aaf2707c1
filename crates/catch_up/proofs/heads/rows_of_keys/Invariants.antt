use Rattle.std.proofs.Common.{◌-◌}
use Rattle.catch_up.proofs.Merge.{IsMerged}
use Rattle.catch_up.proofs.heads.rows_of_keys.Given as goal

abbrev pub invariant-loop : goal.invariant-loop
invariant-loop l = IsMerged l.store l.span l.fn.ts l.place l.through l.n (l.n - l.counter) l.rows.items l.heads
