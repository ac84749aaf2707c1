use Rattle.std.proofs.Common.{take}
use Rattle.trace_check.specs.Traces.{StandsFor}
use Rattle.trace_check.proofs.check.Given as goal

-- the events so far were taken
abbrev pub invariant-loop-event : goal.invariant-loop-event
invariant-loop-event l = StandsFor l.checker (take l.event-index l.events)
