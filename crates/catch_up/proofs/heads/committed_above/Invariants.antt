use Rattle.std.proofs.Common.{◌-◌}
use Rattle.catch_up.proofs.Due.{IsPassed}
use Rattle.catch_up.proofs.heads.committed_above.Given as goal

-- none is due up to what was passed
abbrev pub invariant-loop-version : goal.invariant-loop-version
invariant-loop-version l = IsPassed l.chain l.after l.through l.passed

abbrev pub decreases-loop-version : goal.decreases-loop-version
decreases-loop-version l = l.through - l.passed
