use Rattle.std.proofs.Common.{◌≡◌, [], ◌++◌, length}
use Rattle.script.proofs.transcripts.all_of.Given as goal

-- while no event was read, what is left wants what the whole does
abbrev pub invariant-loop-event : goal.invariant-loop-event
invariant-loop-event l =
    (l.fn.left.events ≡ l.events.items ++ l.left.events) × (l.fn.left.fault ≡ l.left.fault)
    × (l.events.items ≡ [] → l.fn.left.wants ≡ l.left.wants)

abbrev pub decreases-loop-event : goal.decreases-loop-event
decreases-loop-event l = length l.left.events
