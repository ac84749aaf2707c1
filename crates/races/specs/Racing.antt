-- What a whole race does, and each of its sessions, and what is known once their seats are back.
use Rattle.std.specs.Prelude.{◌≡◌, ℕ, List, [], map, Bool, false, Vec, length, vec_len, Result, Ok, All, ◌<◌, ◌≤◌, ◌==◌, filter, ◌+◌, reverse, flat_map, IsPermutation, true}
use mathlib.Core.Option.{some}
use lib.ListN.{get_elem?}
use Rattle.ticket_lock.specs.declared.chronicle.Chronicle.{Ghosts}
use Rattle.ticket_lock.specs.declared.lock.Seat.{Seat}
use Rattle.shared_db.specs.declared.served.Served.{Served}
use Rattle.shared_db.specs.declared.config.Config.{Config}
use Rattle.shared_db.specs.Seats.{IsReason}
use Rattle.engine.specs.declared.Engine.{Engine}
use Rattle.engine.specs.Engine.{StandsFor, steps_of}
use Rattle.races.specs.Prelude.{Cmd, Db, Event, IsOf, IsSame, StartsWith, mine, seen, IsGapless, IsTrace, of_seat, first_of, most, number, seat_count}
use Rattle.races.specs.declared.ended.Ended.{Ended}
use Rattle.races.specs.declared.racing.Plays.{Plays}
use Rattle.races.specs.declared.calls.FreshError.{FreshError}
use Rattle.races.specs.declared.calls.FreshError.TheVariants as errors

-- the commands of events, in their order
abbrev pub commands_of : List Event → List Cmd
commands_of events = map (λ (e : Event). e.cmd) events

module _ {C : Ghosts Served Event} where
  -- the seat has seen nothing and made no call
  pub record IsIdle (s : Seat Served Event C) : Type 0 where
    pub unseen : seen s ≡ []
    pub none : mine s ≡ []

  -- the session of this seat ended: its calls were these commands, or a beginning of them where it was refused for want of positions
  pub record IsPlayed (db : Db) (seat : Seat Served Event C) (commands : List Cmd) (events : List Event) (spent : Bool) (after : Seat Served Event C) : Type 0 where
    pub own : IsOf db after
    pub same : IsSame seat after
    pub begun : StartsWith commands (commands_of events)
    pub whole : spent ≡ false → commands_of events ≡ commands

  -- the session of this place has ended: it had the seat and the commands of that place
  pub record HasEnded {Z : Type 0} (db : Db) (seats : List (Seat Served Event C)) (lists : List (Vec Cmd Z)) (k : ℕ) (events : List Event) (spent : Bool) (after : Seat Served Event C) : Type 0 where
    pub seat : Seat Served Event C
    pub commands : Vec Cmd Z
    pub at_seat : get_elem? seats k ≡ some seat
    pub at_list : get_elem? lists k ≡ some commands
    pub played : IsPlayed db seat commands.items events spent after

-- threads were started for these seats and these lists, in their order
pub record AreStarted {H : Type 0} (promise : H → Plays) (db : Db) (seats : List _) (lists : List _) (handles : List H) : Type 0 where
  pub of_seats : map (λ h. (promise h).seat.value) handles ≡ seats
  pub of_lists : map (λ h. (promise h).commands.value) handles ≡ lists
  pub same : All (λ h. (promise h).db.value ≡ db) handles

-- each result is that of an ended session
abbrev pub AreOk : {E : Type 0} → List (Result Ended E) → List Ended → Type 0
AreOk results all = map Ok all ≡ results

-- each session has ended, at the place of its seat and its list
pub record AllEnded {Y Z : Type 0} (db : Db) (seats : List _) (lists : List (Vec Cmd Y)) (all : Vec Ended Z) : Type 0 where
  pub count : vec_len all ≡ length seats
  pub as_many : length lists ≡ length seats
  pub each : (k : ℕ) (e : Ended) → get_elem? all.items k ≡ some e → HasEnded db seats lists k e.events.items e.spent e.seat

-- the commands of one session, in their order
abbrev pub commands_by : ℕ → List (ℕ × Cmd) → List Cmd
commands_by k calls = map (λ (c : ℕ × Cmd). c.1) (filter (λ (c : ℕ × Cmd). c.0 == k) calls)

-- each list is that of the session of its place
abbrev pub AreLists : {Z : Type 0} → List (ℕ × Cmd) → List (Vec Cmd Z) → Type 0
AreLists calls lists = (k : ℕ) (list : Vec Cmd _) → get_elem? lists k ≡ some list → list.items ≡ commands_by k calls

-- the events are one right history from position 0 to 18446744073709551614 at most, of all the calls of at most 64
-- sessions: each session's in their order
pub record IsRaceOf (sessions : ℕ) (calls : List (ℕ × Cmd)) (events : List Event) : Type 0 where
  pub trace : IsTrace events
  pub gapless : IsGapless 0 events
  pub bounded : length events ≤ most
  pub few : sessions ≤ 64
  pub named : (k : ℕ) (e : Event) → get_elem? events k ≡ some e → e.seat < sessions
  pub each : (k : ℕ) → k < sessions → commands_of (of_seat (λ (x : Event). x.seat) k events) ≡ commands_by k calls

-- why a race on a database of its own left nothing
abbrev pub IsFreshReason : Config → FreshError → Type 0
IsFreshReason config (errors.Open reason) = IsReason config reason
IsFreshReason config _ = Unit {0}

-- what one session has is all that its seat has in the history, in order; where a call of it was refused, all positions are used
pub record IsShare (first : ℕ) (history : List Event) (e : Ended) : Type 0 where
  pub own : e.events.items ≡ of_seat (λ (x : Event). x.seat) (number e.seat) history
  pub spent : e.spent ≡ true → first + length history ≡ most

-- the events of all sessions, each once, are the one history that the engine stands for, to position 18446744073709551614 at
-- most
pub record IsSettled (db : Db) (all : List Ended) (engine : Engine) (events : List Event) : Type 0 where
  pub same : IsPermutation (flat_map (λ (e : Ended). e.events.items) all) events
  pub gapless : IsGapless (first_of db) events
  pub bounded : first_of db + length events ≤ most
  pub stood : StandsFor engine (reverse events)
  pub steps : steps_of engine ≡ length events
  pub trace : IsTrace events
  pub named : (k : ℕ) (e : Event) → get_elem? events k ≡ some e → e.seat < seat_count db
  pub each : (k : ℕ) (e : Ended) → get_elem? all k ≡ some e → IsShare (first_of db) events e
