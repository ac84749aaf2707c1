-- What holds between any two steps: the turn order, the one history and the floor bound.
use Rattle.std.specs.Prelude.{◌≡◌, ℕ, ◌+◌, ◌<◌, ◌≤◌, List, [], ◌∷◌, sum_by, length, max, Option, Some, Bool, true, false, cond}
use mathlib.Core.Option.{some, none}
use lib.ListN.{get_elem?}
use Rattle.atomic_table.specs.Table.{State}
use Rattle.ticket_lock.specs.Lists.{most, StartsWith, of_seat, span}
use Rattle.ticket_lock.specs.Views.{numbers}
use Rattle.ticket_lock.specs.declared.rule.SeatRecord.{SeatRecord}
use Rattle.ticket_lock.specs.declared.rule.View.{View}
use Rattle.ticket_lock.specs.declared.rule.Setup.{Setup}

module _ {E : Type 0} (seat_of : E → ℕ) (first count ticket serving floor : ℕ) (h : List E) where
  -- what a seat keeps is true of the words and of the history h
  pub record Fits (c : SeatRecord E) : Type 0 where
    pub base : c.first ≡ first
    pub below : c.number < count
    pub sees : StartsWith h c.seen
    pub owns : c.mine ≡ of_seat seat_of c.number h
    pub ended : c.spent ≡ true → ticket ≡ most
    pub low : c.known ≤ floor

  -- what the seat j knows is true; `owner` says whose each ticket is, and `away` that some seat has the turn
  pub record Knows (away : Bool) (owner : ℕ → ℕ) (j : ℕ) (v : View E) : Type 0 where
    pub sees : StartsWith h v.kept.seen
    pub heard : StartsWith h v.heard
    pub fits : v.sits ≡ true → Fits v.kept
    pub gathered : (k : ℕ) (c : SeatRecord E) → get_elem? v.gathered k ≡ some c → Fits c
    pub unissued : (k n : ℕ) → get_elem? v.unissued k ≡ some n → of_seat seat_of n h ≡ []
    pub low : v.loaded ≤ serving
    pub cap : v.kept.known ≤ floor
    pub out : (t : ℕ) → v.ticket ≡ Some t → (serving ≤ t) × (t < ticket) × (owner t ≡ j) × (v.sits ≡ true)
    pub holder : v.holds ≡ true → (away ≡ true) × (v.ticket ≡ Some serving) × (v.found ≡ h)

module _ {T E : Type 0} (stands : T → ℕ → List E → Type 0) (seat_of : E → ℕ) (floor_of : T → ℕ) where
  -- There is one history. Its length is how far the serving number has come, and the last value stands for it.
  pub record Turns (key : Setup) : Type 0 where
    pub ticket : ℕ
    pub serving : ℕ
    pub floor : ℕ
    -- on the beds seats sleep; what they say is of no account
    pub beds : List ℕ
    pub history : List E
    pub last : T
    -- some seat has the turn
    pub away : Bool
    -- whose each ticket is
    pub owner : ℕ → ℕ
    pub come : serving ≡ key.first + length history
    pub ahead : serving ≤ ticket
    -- no ticket bears the greatest number
    pub bounded : ticket ≤ most
    pub stood : stands last key.first history
    -- while nobody has the turn, the floor word is no higher than the value's floor
    pub capped : away ≡ false → floor ≤ floor_of last
    pub named : (k : ℕ) (e : E) → get_elem? history k ≡ some e → seat_of e < key.count

  -- The words, the slots and the views are those of the turns. The value is at home, or what the holder of the turn found.
  pub record Ordered (key : Setup) (s : State (Option T) (View E)) : Type 0 where
    pub turns : Turns key
    pub open turns use *
    pub words : s.words ≡ ticket ∷ serving ∷ floor ∷ beds
    pub home : s.homes ≡ cond away none (some (Some last)) ∷ []
    -- each ticket from the serving number on is out, with the seat that owns it
    pub out : (t : ℕ) → serving ≤ t → t < ticket → (v : View E) × (get_elem? s.views (owner t) ≡ some v) × (v.ticket ≡ Some t)
    -- the floor word is no higher than the value, or than what its holder raised the word to
    pub held : away ≡ true → (v : View E) × (get_elem? s.views (owner serving) ≡ some v) × ((v.holds ≡ true) × (floor ≤ max (floor_of last) v.raised))
    pub each : (j : ℕ) (v : View E) → get_elem? s.views j ≡ some v → Knows seat_of key.first key.count ticket serving floor history away owner j v
    -- however the seats are weighed by their numbers: the views stand for each number below the count, once
    pub counted : (f : ℕ → ℕ) → sum_by (λ v. sum_by f (numbers v)) s.views ≡ sum_by f (span 0 key.count)
