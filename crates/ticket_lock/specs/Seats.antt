-- What a contract says of a seat, how a call for a turn ends, and what is known once all seats are back.
use Rattle.std.specs.Prelude.{◌≡◌, ℕ, List, length, Option, None, Bool, ◌+◌, ◌<◌, ◌≤◌, ◌==◌, sum_by, count_by, true, ◌⊎◌, ◌∷◌, Some, false}
use mathlib.Core.Option.{some}
use lib.ListN.{get_elem?}
use Rattle.ticket_lock.specs.declared.rule.SeatRecord.{SeatRecord}
use Rattle.ticket_lock.specs.declared.rule.Look.{Look}
use Rattle.ticket_lock.specs.declared.chronicle.Chronicle.{Ghosts}
use Rattle.ticket_lock.specs.declared.lock.Seat.{Seat}
use Rattle.ticket_lock.specs.declared.lock.TicketLock.{TicketLock}
use Rattle.ticket_lock.specs.Views.{seat}
use Rattle.ticket_lock.specs.Lists.{most, StartsWith, of_seat, span}
use Rattle.ticket_lock.specs.declared.rule.Look.TheVariants.{Serving, Next}
use Rattle.ticket_lock.specs.declared.lock.Denied.{Denied}
use Rattle.ticket_lock.specs.declared.lock.Denied.TheVariants.{Busy, Spent}

module _ {T E : Type 0} {C : Ghosts T E} where
  -- its number among the seats of its lock
  abbrev pub number : Seat T E C → ℕ
  number s = s.number

  -- what it keeps from turn to turn
  abbrev pub record_of : Seat T E C → SeatRecord E
  record_of s = s.pass.me.0.kept

  -- the beginning of the history that it has seen
  abbrev pub seen : Seat T E C → List E
  seen s = s.pass.me.0.kept.seen

  -- the entries of its own turns
  abbrev pub mine : Seat T E C → List E
  mine s = s.pass.me.0.kept.mine

  -- it knows that no ticket is left
  abbrev pub met_spent : Seat T E C → Bool
  met_spent s = s.pass.me.0.kept.spent

  -- the greatest floor that it knows
  abbrev pub known : Seat T E C → ℕ
  known s = s.pass.me.0.kept.known

  -- the ticket of its turn, while it has one
  abbrev pub ticket : Seat T E C → Option ℕ
  ticket s = s.pass.me.0.ticket

  -- the history that the value of its turn stood for when the turn came
  abbrev pub found : Seat T E C → List E
  found s = s.pass.me.0.found

  -- the greatest floor that it raised the word to in this turn
  abbrev pub raised : Seat T E C → ℕ
  raised s = s.pass.me.0.raised

  -- what it found in the words, the newest first, but by the loads that await its turn
  abbrev pub looks : Seat T E C → List Look
  looks s = s.pass.me.0.looks

  -- the lock was made with this seat
  pub record IsOf (lock : TicketLock T E) (s : Seat T E C) : Type 0 where
    pub table : s.pass.table_id ≡ lock.board.shared.table_id
    pub first : s.pass.me.0.kept.first ≡ lock.first

  -- the seat of this number, before its first turn
  pub record IsNew (lock : TicketLock T E) (n : ℕ) (s : Seat T E C) : Type 0 where
    pub table : s.pass.table_id ≡ lock.board.shared.table_id
    pub number : s.number ≡ n
    pub view : s.pass.me.0 ≡ seat lock.first n

  -- the seats are new, numbered from 0
  abbrev pub AllNew : TicketLock T E → List (Seat T E C) → Type 0
  AllNew lock seats = (k : ℕ) (s : Seat T E C) → get_elem? seats k ≡ some s → IsNew lock k s

  -- the first ticket of the lock is `start`, and it was made with these `size` seats
  pub record IsBegun (start size : ℕ) (lock : TicketLock T E) (seats : List (Seat T E C)) : Type 0 where
    pub first : lock.first ≡ start
    pub count : lock.count ≡ size
    pub all : length seats ≡ size
    pub new : AllNew lock seats

  -- the seats are of the lock, and none has a turn
  abbrev pub AllFree : TicketLock T E → List (Seat T E C) → Type 0
  AllFree lock seats = (k : ℕ) (s : Seat T E C) → get_elem? seats k ≡ some s → (s.pass.table_id ≡ lock.board.shared.table_id) × (ticket s ≡ None)

  -- the same seat of the same lock, at another time
  pub record IsSame (old new : Seat T E C) : Type 0 where
    pub table : new.pass.table_id ≡ old.pass.table_id
    pub number : new.number ≡ old.number
    pub first : new.pass.me.0.kept.first ≡ old.pass.me.0.kept.first

  -- both lists and the known floor stay
  pub record Keeps (old new : Seat T E C) : Type 0 where
    pub same : IsSame old new
    pub seen : seen new ≡ seen old
    pub mine : mine new ≡ mine old
    pub known : known new ≡ known old

  -- its turn, if it has one, and its own entries stay
  pub record KeepsTurn (old new : Seat T E C) : Type 0 where
    pub same : IsSame old new
    pub mine : mine new ≡ mine old
    pub met_spent : met_spent new ≡ met_spent old
    pub ticket : ticket new ≡ ticket old
    pub found : found new ≡ found old

module _ {T E : Type 0} {C : Ghosts T E} where
  -- what one seat saw and made is part of the whole history, and no floor that it knows is above the value's
  pub record IsPartOf (seat_of : E → ℕ) (first floor : ℕ) (history : List E) (s : Seat T E C) : Type 0 where
    pub sees : StartsWith history (seen s)
    pub owns : mine s ≡ of_seat seat_of (number s) history
    pub spent : met_spent s ≡ true → first + length history ≡ most
    pub known : known s ≤ floor

  -- The value stands for one history, and that is the merge of what the seats made: each entry names one of them, and each has all entries that name it, in their order.
  pub record IsMerge (stands : T → ℕ → List E → Type 0) (seat_of : E → ℕ) (floor_of : T → ℕ) (first count : ℕ) (seats : List (Seat T E C)) (value : T) : Type 0 where
    pub all : length seats ≡ count
    pub history : List E
    pub stood : stands value first history
    -- each entry's number is below the greatest
    pub bounded : first + length history ≤ most
    pub named : (k : ℕ) (e : E) → get_elem? history k ≡ some e → seat_of e < count
    pub each : (k : ℕ) (s : Seat T E C) → get_elem? seats k ≡ some s → IsPartOf seat_of first (floor_of value) history s
    -- each number below the count is the number of one seat
    pub once : (n : ℕ) → n < count → count_by (λ s. number s == n) seats ≡ 1
    -- the same, for any weight that goes by the number
    pub weighed : (f : ℕ → ℕ) → sum_by (λ s. f (number s)) seats ≡ sum_by f (span 0 count)
    pub total : sum_by (λ s. length (mine s)) seats ≡ length history

-- The serving word had `served`, and the ticket word had `next` after it, perhaps at a second look, where the first found `served` still. It noted no other looks.
abbrev pub HasLooked : List Look → ℕ → ℕ → List Look → Type 0
HasLooked before served next after = (after ≡ Next next ∷ Serving served ∷ before) ⊎ (after ≡ Next next ∷ Next served ∷ Serving served ∷ before)

-- Where no ticket is left: the serving word had some number, and the ticket word the greatest after it. It noted no other looks.
abbrev pub HasMetSpent : List Look → Denied → List Look → Type 0
HasMetSpent before (Busy served next) after = Unit {0}
HasMetSpent before Spent after = (served : ℕ) × (after ≡ Next 18446744073709551615 ∷ Serving served ∷ before)

module _ {T E : Type 0} {C : Ghosts T E} where
  -- The seat has the turn t of a lock that began at `first`. The value stands for what it found: all turns so far, which begin with what it had seen.
  pub record HasTurn (stands : T → ℕ → List E → Type 0) (floor_of : T → ℕ) (first : ℕ) (old : Seat T E C) (value : T) (t : ℕ) (new : Seat T E C) : Type 0 where
    pub keeps : Keeps old new
    pub unspent : met_spent old ≡ false
    pub still : met_spent new ≡ false
    pub ticket : ticket new ≡ Some t
    pub stood : stands value first (found new)
    pub begins : StartsWith (found new) (seen new)
    pub place : first + length (found new) ≡ t
    pub below : t < most
    pub high : known old ≤ floor_of value
    pub unraised : raised new ≡ 0

  -- no ticket is left, and the seat knows it
  pub record IsSpent (old new : Seat T E C) : Type 0 where
    pub keeps : Keeps old new
    pub free : ticket new ≡ None
    pub met : met_spent new ≡ true

  -- In this call the serving word had `served`, no older than what the seat had seen, and the ticket word then had `next`, which is later: the seat never met `Spent`.
  pub record IsBusy (first : ℕ) (old : Seat T E C) (served next : ℕ) (new : Seat T E C) : Type 0 where
    pub keeps : Keeps old new
    pub free : ticket new ≡ None
    pub unspent : met_spent old ≡ false
    pub met : met_spent new ≡ met_spent old
    pub looked : HasLooked (looks old) served next (looks new)
    pub ahead : served < next
    pub reached : first + length (seen old) ≤ served

  -- what a refusal tells, by its kind
  abbrev pub IsDenied : ℕ → Seat T E C → Denied → Seat T E C → Type 0
  IsDenied first old (Busy served next) new = IsBusy first old served next new
  IsDenied first old Spent new = IsSpent old new
