-- What the lock gave back is the whole history.
use Rattle.std.proofs.Common.{ℕ, List, reverse, ◌∙◌}
use Rattle.shared_db.proofs.Common.{Event, Ghosts, Seat, closed_timestamp, length-reverse}
use Rattle.ticket_lock.specs.Seats.{IsMerge}
use Rattle.shared_db.specs.declared.served.Served.{Served}
use Rattle.shared_db.specs.declared.db.Db.{Db}
use Rattle.shared_db.specs.History.{StandsFor}
use Rattle.shared_db.specs.Seats.{first_of, seat_count, IsWhole}
use Rattle.shared_db.specs.Standing.{legal_of, steps_are}

module _ {C : Ghosts Served Event} where
  pub whole : (db : Db) (seats : List (Seat Served Event C)) (served : Served) → IsMerge (λ (s : Served) (n : ℕ) (h : List Event). StandsFor s.engine.value n h) (λ (e : Event). e.seat) (λ (s : Served). closed_timestamp s.engine.value) (first_of db) (seat_count db) seats served
      → IsWhole db seats served.engine.value
  whole db seats served m = let stood = m.stood.history in record {
    history = m.history;
    stood = stood;
    legal = legal_of served.engine.value (reverse m.history) stood;
    gapless = m.stood.gapless;
    bounded = m.bounded;
    steps = steps_are served.engine.value (reverse m.history) stood ∙ length-reverse m.history;
    named = m.named;
    each = m.each;
    once = m.once;
    total = m.total;
  }
