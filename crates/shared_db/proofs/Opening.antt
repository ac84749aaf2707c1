-- The seats of a new lock are those of a new database.
use Rattle.std.proofs.Common.{ap, ℕ, List}
use Rattle.shared_db.proofs.Common.{Event, Ghosts, Seat}
use Rattle.ticket_lock.specs.declared.rule.View.{View}
use Rattle.ticket_lock.specs.Seats as locks
use Rattle.shared_db.specs.Seats.{AllNew, IsNew}
use Rattle.shared_db.specs.declared.db.Db.{Db}
use Rattle.shared_db.specs.declared.served.Served.{Served}

module _ {C : Ghosts Served Event} where
  new_seat : (db : Db) (n : ℕ) (s : Seat Served Event C) → locks.IsNew db.lock n s → IsNew db n s
  new_seat db n s new = record {
    own = record {
      own = record { table = new.table; first = ap (λ (v : View Event). v.kept.first) new.view };
      free = ap (λ (v : View Event). v.ticket) new.view;
    };
    numbered = new.number;
    unseen = ap (λ (v : View Event). v.kept.seen) new.view;
    idle = ap (λ (v : View Event). v.kept.mine) new.view;
    floorless = ap (λ (v : View Event). v.kept.known) new.view;
    unspent = ap (λ (v : View Event). v.kept.spent) new.view;
  }

  pub all_new : (db : Db) (seats : List (Seat Served Event C)) → locks.AllNew db.lock seats → AllNew db seats
  all_new db seats new k s is = new_seat db k s (new k s is)
