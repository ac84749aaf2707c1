use Rattle.std.proofs.Common.{◌≡◌, ◌-◌, List, length}
use Rattle.embedded.proofs.Common.{Event, effects_of, horizon_of}
use Rattle.embedded.specs.Dumping.{filled}
use Rattle.embedded.specs.Embedded.{StandsFor}
use Rattle.embedded.proofs.database.Database.put_more.Given as goal

abbrev pub invariant-loop-end : goal.invariant-loop-end
invariant-loop-end l = (h : List Event) → StandsFor l.self h → l.end.horizon ≡ horizon_of (effects_of h)
    → filled (effects_of h) l.end l.room l.text.items l.place ≡ filled (effects_of h) l.end l.room l.fn.text.items l.fn.place

abbrev pub decreases-loop-end : goal.decreases-loop-end
decreases-loop-end l = l.room - length l.text.items
