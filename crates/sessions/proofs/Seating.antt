-- Callers before and after a call.
use Rattle.std.proofs.Common.{◌≡◌, ℕ, ◌<◌, List, length, set, ◌∙◌}
use mathlib.Core.Option.{some}
use lib.ListN.{get_or, get_elem?}
use Rattle.sessions.proofs.Common.{Db, Event, Ghosts, IsOf, IsSame, Seat, Served, each_read, each_set}
use Rattle.sessions.specs.Seating.{IsSeated, AreSeated}

module _ {C : Ghosts Served Event} where
  -- the seat that is lent out from its place
  pub lent : (db : Db) (seats : List (Seat Served Event C)) (k : ℕ) (s : Seat Served Event C) → AreSeated db seats → k < length seats → s ≡ get_or seats k s → IsSeated db k s
  lent db seats k s seated there at = each_read (IsSeated db) seats k s seated there at

  -- a seat comes back from its call to its place
  pub back : (db : Db) (seats : List (Seat Served Event C)) (k : ℕ) (old new : Seat Served Event C) → AreSeated db seats → IsSeated db k old → IsOf db new → IsSame old new → AreSeated db (set seats k new)
  back db seats k old new seated was own same = each_set (IsSeated db) seats k new (record { own = own; numbered = same.number ∙ was.numbered }) (λ j d _ e. seated j d e)

  -- two seats come back from their meeting to their places
  pub both_back : (db : Db) (seats : List (Seat Served Event C)) (i j : ℕ) (one other one' other' : Seat Served Event C) → AreSeated db seats → get_elem? seats i ≡ some one → get_elem? seats j ≡ some other → IsOf db one' → IsSame one one' → IsOf db other' → IsSame other other'
      → AreSeated db (set (set seats i one') j other')
  both_back db seats i j one other one' other' seated at_one at_other own same own' same' =
      each_set (IsSeated db) (set seats i one') j other' (record { own = own'; numbered = same'.number ∙ (seated j other at_other).numbered }) (λ k d _ e. back db seats i one one' seated (seated i one at_one) own same k d e)
