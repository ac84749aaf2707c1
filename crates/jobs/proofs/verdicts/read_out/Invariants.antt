use Rattle.std.proofs.Common.{◌≡◌, length}
use Rattle.jobs.proofs.verdicts.read_out.Given as goal

abbrev pub invariant-loop-event : goal.invariant-loop-event
invariant-loop-event l = l.initial.events.fault ≡ l.events.fault

abbrev pub decreases-loop-event : goal.decreases-loop-event
decreases-loop-event l = length l.events.events
