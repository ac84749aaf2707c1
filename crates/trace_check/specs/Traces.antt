-- Which lists of events, the oldest first, one database can have given, and where another list first goes wrong; what a
-- checker has taken, and what it tells.
use Rattle.std.specs.Prelude.{ℕ, List, [], ◌∷◌, ◌++◌, ◌≡◌, ◌<◌, ◌↔◌, ◌+◌, Bool, true, Option, Some, None, length, reverse}
use Rattle.spans.specs.declared.calls.events.Event.{Event}
use Rattle.spans.specs.Legal.{IsGapless, IsLegal, IsRightEvent, is_accepted, may_lack_memory}
use Rattle.spans.specs.Answer.{answer_of}
use Rattle.spans.specs.Effects.{effects_of}
use Rattle.plain_database.specs.declared.database.PlainDatabase.{PlainDatabase}
use Rattle.spans.specs.declared.report.Report.{Report}
use Rattle.spans.specs.Report.{IsReport, limit_in, limit_of}
use Rattle.restarts.specs.Dump.{mark_of}
use Rattle.plain_database.specs.declared.dump.Dump.{Dump}
use Rattle.plain_database.specs.Streams.{IsDump}
use Rattle.plain_database.specs.Tied as plain
use Rattle.trace_check.specs.declared.checker.Checker.{Checker}

-- where the first event stands
abbrev pub position_of_first : List Event → ℕ
position_of_first [] = 0
position_of_first (e ∷ es) = e.position

-- where the last of a position and events behind it stands
abbrev pub last_from : ℕ → List Event → ℕ
last_from position [] = position
last_from position (e ∷ es) = last_from e.position es

-- where the last event stands, if there is one
abbrev pub last_position : List Event → Option ℕ
last_position [] = None
last_position (e ∷ es) = Some (last_from e.position es)

-- an event may stand at a position: behind the last one, or anywhere
abbrev pub IsInPlace : Option ℕ → ℕ → Type 0
IsInPlace None position = Unit {0}
IsInPlace (Some last) position = position ≡ last + 1

-- each reply is right after the events before it, and each next event stands one place further
pub record IsTrace (events : List Event) : Type 0 where
  pub legal : IsLegal (reverse events)
  pub gapless : IsGapless (position_of_first events) events

-- what comes before the event at this position is a trace, and with that event it is none
pub record IsFirstWrong (events : List Event) (position : ℕ) : Type 0 where
  pub before : List Event
  pub event : Event
  pub after : List Event
  pub parts : events ≡ before ++ event ∷ after
  pub right : IsTrace before
  pub stops : ¬ IsTrace (before ++ event ∷ [])
  pub stands : event.position ≡ position

-- a trace comes before the event, which is in its place; its command may lack memory, and its answer is no refusal
pub record MayLackIn (events : List Event) : Type 0 where
  pub before : List Event
  pub event : Event
  pub after : List Event
  pub parts : events ≡ before ++ event ∷ after
  pub right : IsTrace before
  pub placed : IsInPlace (last_position before) event.position
  pub may : may_lack_memory event.cmd ≡ true
  pub accepted : is_accepted (answer_of (effects_of (reverse before)) event.seat event.cmd) ≡ true

-- whatever history the database stands for, this is whether the event is right after it
abbrev pub Judges : PlainDatabase → Event → Bool → Type 0
Judges db e right = (h : List Event) → plain.StandsFor db h → length h < 18446744073709551615 → (right ≡ true) ↔ IsRightEvent (effects_of h) e

-- whatever history the database stands for, the event's command may lack memory, and the answer to it is no refusal
abbrev pub MayLack : PlainDatabase → Event → Type 0
MayLack db e =
    (h : List Event) → plain.StandsFor db h
    → (may_lack_memory e.cmd ≡ true) × (length h < 18446744073709551615 → is_accepted (answer_of (effects_of h) e.seat e.cmd) ≡ true)

-- where the event is right, the database stands for the history with it
abbrev pub TakesIn : PlainDatabase → PlainDatabase → Event → Bool → Type 0
TakesIn db db' e right = right ≡ true → (h : List Event) → plain.StandsFor db h → length h < 18446744073709551615 → plain.StandsFor db' (e ∷ h)

-- the checker has taken the events, the oldest first: they are a trace, and its database stands for them
pub record StandsFor (c : Checker) (events : List Event) : Type 0 where
  pub trace : IsTrace events
  pub stands : plain.StandsFor c.database (reverse events)
  pub last : c.last ≡ last_position events

-- whatever a checker has taken, of so few events that a number counts them, this is whether it is a trace with the event behind it
abbrev pub JudgesNext : Checker → Event → Bool → Type 0
JudgesNext c e right = (events : List Event) → StandsFor c events → length events < 18446744073709551615 → (right ≡ true) ↔ IsTrace (events ++ e ∷ [])

-- where it is, the checker has taken the event too
abbrev pub TakesNext : Checker → Checker → Event → Bool → Type 0
TakesNext c c' e right = right ≡ true → (events : List Event) → StandsFor c events → length events < 18446744073709551615 → StandsFor c' (events ++ e ∷ [])

-- whatever a checker has taken, the next event's command may lack memory, and the answer to it is no refusal
abbrev pub MayLackNext : Checker → Event → Type 0
MayLackNext c e =
    (events : List Event) → StandsFor c events
    → (may_lack_memory e.cmd ≡ true)
    × (length events < 18446744073709551615 → is_accepted (answer_of (effects_of (reverse events)) e.seat e.cmd) ≡ true)

-- whatever events a checker has taken, this is their report, and its limit is that of the definitions
abbrev pub Reports : Checker → Bool → Report → Type 0
Reports c whole r =
    (events : List Event) → StandsFor c events → length events < 18446744073709551615
    → IsReport whole (effects_of (reverse events)) r × (limit_in r ≡ limit_of (effects_of (reverse events)))

-- whatever events a checker has taken, this is their dump, which closes at or above a timestamp
abbrev pub Dumps : Checker → ℕ → Dump → Type 0
Dumps c at d = (events : List Event) → StandsFor c events → IsDump (effects_of (reverse events)) (mark_of (effects_of (reverse events)) at) d
