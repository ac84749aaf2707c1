-- How the callers of a database are seated, and how two of them meet.
use Rattle.std.specs.Prelude.{◌≡◌, ℕ, List, set}
use mathlib.Core.Option.{some}
use lib.ListN.{get_elem?}
use Rattle.sessions.specs.Prelude.{Event, Ghosts, IsOf, Seat, Served, StartsWith, longer, met_spent, mine, number, seen}
use Rattle.shared_db.specs.declared.db.Db.{Db}

module _ {C : Ghosts Served Event} where
  -- the seat is of the database, and has this number
  pub record IsSeated (db : Db) (k : ℕ) (s : Seat Served Event C) : Type 0 where
    pub own : IsOf db s
    pub numbered : number s ≡ k

  -- the seats are of the database, each at the place of its number
  abbrev pub AreSeated : Db → List (Seat Served Event C) → Type 0
  AreSeated db seats = (k : ℕ) (s : Seat Served Event C) → get_elem? seats k ≡ some s → IsSeated db k s

  -- of two seats at these places each has seen what the one or the other had, and has its own events
  pub record HaveMet (i j : ℕ) (old new : List (Seat Served Event C)) : Type 0 where
    pub one : Seat Served Event C
    pub other : Seat Served Event C
    pub one' : Seat Served Event C
    pub other' : Seat Served Event C
    pub at_one : get_elem? old i ≡ some one
    pub at_other : get_elem? old j ≡ some other
    pub seats : new ≡ set (set old i one') j other'
    pub longer_seen : seen one' ≡ longer (seen other) (seen one)
    pub same_seen : seen other' ≡ seen one'
    pub begins_one : StartsWith (seen one') (seen one)
    pub begins_other : StartsWith (seen one') (seen other)
    pub one_mine : mine one' ≡ mine one
    pub other_mine : mine other' ≡ mine other
    pub one_spent : met_spent one' ≡ met_spent one
    pub other_spent : met_spent other' ≡ met_spent other
