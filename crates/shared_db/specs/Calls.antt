-- How a call ends.
use Rattle.std.specs.Prelude.{◌≡◌, ◌≢◌, ℕ, ◌+◌, ◌<◌, ◌≤◌, List, [], ◌∷◌, ◌++◌, reverse, length, Some, false}
use Rattle.shared_db.specs.Prelude.{All, Cmd, Event, Ghosts, IsBusy, IsGapless, IsLegal, IsSpent, Seat, found, known, met_spent, mine, most, number, of_seat, raised, seen, ticket, Served}
use Rattle.shared_db.specs.declared.calls.CallDenied.{CallDenied}
use Rattle.shared_db.specs.declared.calls.CallDenied.TheVariants.{Busy, Spent}
use Rattle.shared_db.specs.History.{StandsFor, closed_after}

-- The event is the last of one legal history, gapless from first on: what the seat had seen, others' events, and it.
pub record IsAnswered {C : Ghosts Served Event} (first : ℕ) (old : Seat Served Event C) (cmd : Cmd) (event : Event) (new : Seat Served Event C) : Type 0 where
  pub between : List Event
  pub history : seen new ≡ (seen old ++ between) ++ event ∷ []
  pub others : All (λ (e : Event). e.seat ≢ number old) between
  pub legal : IsLegal (reverse (seen new))
  pub gapless : IsGapless first (seen new)
  -- the event is the seat's, and its only new one
  pub own : mine new ≡ mine old ++ event ∷ []
  pub owned : mine new ≡ of_seat (λ (e : Event). e.seat) (number new) (seen new)
  pub seat : event.seat ≡ number old
  pub command : event.cmd ≡ cmd
  pub position : event.position ≡ first + length (seen old ++ between)
  -- the greatest position is 18446744073709551614
  pub bounded : event.position < most
  -- no floor that the seat knew is above what is closed now, which is the floor that it knows
  pub risen : known old ≤ closed_after (seen new)
  pub floor : known new ≡ closed_after (seen new)
  -- it never met `Spent`
  pub unspent : met_spent old ≡ false
  pub still : met_spent new ≡ false

-- why there was no call, after which both lists are as before
abbrev pub IsDenied : {C : Ghosts Served Event} → ℕ → Seat Served Event C → Cmd → CallDenied → Seat Served Event C → Type 0
IsDenied first old cmd (Busy served next back) new = (back ≡ cmd) × IsBusy first old served next new
IsDenied first old cmd (Spent back) new = (back ≡ cmd) × IsSpent old new

-- the seat has the turn t, and the value stands for what it found
pub record IsReady {C : Ghosts Served Event} (first : ℕ) (value : Served) (t : ℕ) (s : Seat Served Event C) : Type 0 where
  pub turn : ticket s ≡ Some t
  pub stood : StandsFor value.engine.value first (found s)
  pub place : first + length (found s) ≡ t
  pub unraised : raised s ≡ 0

-- the turn t ended with the event
pub record IsMade {C : Ghosts Served Event} (first : ℕ) (old : Seat Served Event C) (t : ℕ) (cmd : Cmd) (event : Event) (new : Seat Served Event C) : Type 0 where
  pub history : seen new ≡ found old ++ event ∷ []
  pub own : mine new ≡ mine old ++ event ∷ []
  pub owned : mine new ≡ of_seat (λ (e : Event). e.seat) (number new) (seen new)
  pub seat : event.seat ≡ number old
  pub command : event.cmd ≡ cmd
  pub position : event.position ≡ t
  pub legal : IsLegal (reverse (seen new))
  pub gapless : IsGapless first (seen new)
  pub risen : known old ≤ closed_after (seen new)
  pub floor : known new ≡ closed_after (seen new)
  pub met : met_spent new ≡ met_spent old
