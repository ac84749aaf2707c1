use Rattle.std.proofs.Common.{◌≡◌, None, length}
use Rattle.script.specs.Transcripts.{WantsAny}
use Rattle.follow.specs.Seeds.{last_scan}
use Rattle.follow.proofs.seed.last_scan.Given as goal

-- what an event below wants, what was left at first wants
abbrev pub invariant-loop-event : goal.invariant-loop-event
invariant-loop-event l =
    (l.initial.events.fault ≡ l.events.fault)
    × (last_scan None l.initial.events.events ≡ last_scan l.last l.events.events)
    × (WantsAny l.events → WantsAny l.initial.events)

abbrev pub decreases-loop-event : goal.decreases-loop-event
decreases-loop-event l = length l.events.events
