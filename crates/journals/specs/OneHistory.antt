-- The one history of all that was told before a crash (this project).
use Rattle.std.specs.Prelude.{ℕ, List, [], ◌∷◌, ◌++◌, ◌-◌, map, length, take, nat_le, if◌then◌else◌, Bool, true, false, ◌↔◌}
use Rattle.journals.specs.Prelude.{Abort, Aborted, Cmd, Commit, Committed, Del, Event, IsLegal, NoMemory, Put, Refused, Reply, TooLate, crash, event}
use Rattle.journals.specs.Batches.{Noted, events_of, last_record, rests_on}
use Rattle.journals.specs.Lives.{Life, base_of, disk, noted, there}
use Rattle.journals.specs.Law.{renumbered}

-- what stands for an event that rests on what is lost: an abort, where it ended a transaction, and else nothing
abbrev pub instead : List Event → ℕ → Cmd → Reply → List Event
instead g seat (Commit t) (Committed keys) = event (length g) seat (Abort t) Aborted ∷ g
instead g seat (Put t x v) (Refused TooLate) = event (length g) seat (Abort t) Aborted ∷ g
instead g seat (Del t x) (Refused TooLate) = event (length g) seat (Abort t) Aborted ∷ g
instead g seat cmd reply = g

abbrev pub is_wanting : Reply → Bool
is_wanting (Refused NoMemory) = true
is_wanting reply = false

-- one event more, where a record is lost: with its answer where that doesn't rest on what is lost. (Out of memory says
-- nothing, and is left out.)
abbrev pub beyond : ℕ → Noted → List Noted → List Event → List Event
beyond k n ns g =
    if is_wanting n.event.reply then g
    else (if nat_le (rests_on n ns) k then event (length g) n.event.seat n.event.cmd n.event.reply ∷ g
    else instead g n.event.seat n.event.cmd n.event.reply)

-- all events as long as no record is lost, and then those that don't rest on what is lost, with their answers, in their order
abbrev pub survivors : ℕ → List Noted → List Event
survivors k [] = []
survivors k (n ∷ ns) = if nat_le (last_record (n ∷ ns)) k then n.event ∷ events_of ns else beyond k n ns (survivors k ns)

-- what is there goes on as after their crash
abbrev pub GoesOnAsSurvivors : List Noted → ℕ → ℕ → List Event → Type 0
GoesOnAsSurvivors ns k m r = (es : List Event) → IsLegal (es ++ r) ↔ IsLegal (map (renumbered r (survivors k ns) m) es ++ crash (survivors k ns) m)

-- the events of h behind those that were there before
abbrev pub since : List Event → List Event → List Event
since before h = take (length h - length before) h

-- the events of a life, behind what survives of all lives before it, each of which ended by a crash
abbrev pub whole : List Life → List Event → List Event
whole [] es = es
whole (l ∷ ls) es = whole ls
    (map (renumbered (there l ls) (survivors l.kept (noted l ls)) l.mark) es
    ++ since (events_of (base_of (disk ls) ls)) (crash (survivors l.kept (noted l ls)) l.mark))

-- that is one legal history wherever the events are legal after what is there. So the law of histories holds of all that
-- was told in any life
abbrev pub AreOneHistory : Life → List Life → Type 0
AreOneHistory l ls = (es : List Event) → IsLegal (es ++ there l ls) ↔ IsLegal (whole (l ∷ ls) es)
