-- What a contract says of a database and its seats: how it is opened, and what is known once all seats are back.
use Rattle.std.specs.Prelude.{◌≡◌, ℕ, List, [], None, false, ◌+◌, ◌<◌, ◌≤◌, ◌⊎◌, length, ◌==◌, reverse, sum_by, count_by}
use mathlib.Core.Option.{some}
use lib.ListN.{get_elem?}
use Rattle.timestamps.specs.declared.oracle.OraclePass.{OraclePass}
use Rattle.timestamps.specs.Passes.{IsNew as IsNewPass}
use Rattle.ticket_lock.specs.Seats as locks
use Rattle.shared_db.specs.Prelude.{IsPartOf, Event, Ghosts, Seat, known, met_spent, mine, most, number, seen, ticket, All, Engine, IsGapless, IsLegal, StandsFor, closed_timestamp, steps_of, Served, Db}
use Rattle.shared_db.specs.declared.config.Config.{Config}
use Rattle.shared_db.specs.declared.config.OpenError.{OpenError}
use Rattle.shared_db.specs.declared.config.OpenError.TheVariants.{SeatCount, RingSize, NoMemory}

-- the position of the first event
abbrev pub first_of : Db → ℕ
first_of db = db.lock.first

-- how many seats there are
abbrev pub seat_count : Db → ℕ
seat_count db = db.lock.count

module _ {C : Ghosts Served Event} where
  -- the seat is of this database, and no call of it is under way
  pub record IsOf (db : Db) (s : Seat Served Event C) : Type 0 where
    pub own : locks.IsOf db.lock s
    pub free : ticket s ≡ None

  -- the seat of this number, before its first call
  pub record IsNew (db : Db) (n : ℕ) (s : Seat Served Event C) : Type 0 where
    pub own : IsOf db s
    pub numbered : number s ≡ n
    pub unseen : seen s ≡ []
    pub idle : mine s ≡ []
    pub floorless : known s ≡ 0
    pub unspent : met_spent s ≡ false

  -- all seats are of this database
  abbrev pub AllOf : Db → List (Seat Served Event C) → Type 0
  AllOf db seats = (k : ℕ) (s : Seat Served Event C) → get_elem? seats k ≡ some s → IsOf db s

  -- new seats, numbered from 0
  abbrev pub AllNew : Db → List (Seat Served Event C) → Type 0
  AllNew db seats = (k : ℕ) (s : Seat Served Event C) → get_elem? seats k ≡ some s → IsNew db k s

abbrev pub SeatsInRange : Config → Type 0
SeatsInRange config = (1 ≤ config.seats) × (config.seats ≤ 64)

abbrev pub RingInRange : Config → Type 0
RingInRange config = (1 ≤ config.ring) × (config.ring ≤ 65536)

-- as many new seats and passes as asked
pub record IsOpened {C : Ghosts Served Event} (config : Config) (db : Db) (seats : List (Seat Served Event C)) (passes : List OraclePass) : Type 0 where
  pub seats_in_range : SeatsInRange config
  pub ring_in_range : RingInRange config
  pub first : first_of db ≡ config.first
  pub count : seat_count db ≡ config.seats
  pub seat_total : length seats ≡ config.seats
  pub new_seats : AllNew db seats
  pub pass_total : length passes ≡ config.seats
  pub new_passes : All (IsNewPass db.oracle 0) passes

-- the first limit that is passed, or out of memory where none is
abbrev pub IsReason : Config → OpenError → Type 0
IsReason config SeatCount = (config.seats ≡ 0) ⊎ (64 < config.seats)
IsReason config RingSize = SeatsInRange config × ((config.ring ≡ 0) ⊎ (65536 < config.ring))
IsReason config NoMemory = SeatsInRange config × RingInRange config

-- The engine stands for one history, the oldest event first here, and that is the merge of what the
-- seats called: each event names one of them, and each has all that name it, in their order.
pub record IsWhole {C : Ghosts Served Event} (db : Db) (seats : List (Seat Served Event C)) (engine : Engine) : Type 0 where
  pub history : List Event
  pub stood : StandsFor engine (reverse history)
  pub legal : IsLegal (reverse history)
  pub gapless : IsGapless (first_of db) history
  -- the greatest position is 18446744073709551614
  pub bounded : first_of db + length history ≤ most
  pub steps : steps_of engine ≡ length history
  pub named : (k : ℕ) (e : Event) → get_elem? history k ≡ some e → e.seat < seat_count db
  -- what a seat has seen begins the history, it has its events, and knows no higher floor; where it met `Spent` all positions are used
  pub each : (k : ℕ) (s : Seat Served Event C) → get_elem? seats k ≡ some s → IsPartOf (λ (e : Event). e.seat) (first_of db) (closed_timestamp engine) history s
  pub once : (n : ℕ) → n < seat_count db → count_by (λ (s : Seat Served Event C). number s == n) seats ≡ 1
  pub total : sum_by (λ (s : Seat Served Event C). length (mine s)) seats ≡ length history
