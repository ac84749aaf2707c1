use Rattle.std.proofs.Common.{◌≡◌}
use Rattle.spans.specs.Versions.{newest}
use Rattle.mvto_rules.proofs.Committed.{committed_in}
use Rattle.mvto_rules.proofs.rules.Rules.version_at.Given as goal

-- what was passed is undecided
abbrev pub invariant-loop-version : goal.invariant-loop-version
invariant-loop-version l = newest (committed_in l.fn.self.store l.fn.key) l.at ≡ newest (committed_in l.fn.self.store l.fn.key) l.fn.t

abbrev pub decreases-loop-version : goal.decreases-loop-version
decreases-loop-version l = l.at
