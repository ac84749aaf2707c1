-- What each step tells the seat that makes it.
use Rattle.std.specs.Prelude.{◌≡◌, ◌≢◌, ℕ, ◌+◌, ◌-◌, ◌^◌, ◌<◌, ◌≤◌, List, [], ◌∷◌, length, max, Option, Some, None, true, false}
use Rattle.atomic_table.specs.Table.{Step, rest}
use Rattle.ticket_lock.specs.Lists.{most, StartsWith, of_seat, longer}
use Rattle.ticket_lock.specs.Views.{SeatState, nobody, caught_up, met_spent, drawn, looked, looking, noted_serving, noted_next, holding, ended, raises, knows_floor, marked}
use Rattle.ticket_lock.specs.Seats.{HasLooked}
use Rattle.ticket_lock.specs.declared.rule.Look.TheVariants.{Ignored}
use Rattle.ticket_lock.specs.declared.rule.View.{View}
use Rattle.ticket_lock.specs.declared.lock.Denied.{Denied}
use Rattle.ticket_lock.specs.declared.lock.Denied.TheVariants.{Busy, Spent}

module _ {T E : Type 0} where
  abbrev pub saw_ticket : Step (Option T) → SeatState T E → ℕ → SeatState T E → Type 0
  saw_ticket st m r m' = (m'.1 ≡ m.1) × (m.0.loaded ≤ r) × (m.0.kept.spent ≡ true → r ≡ most) × (r ≡ most → m'.0 ≡ met_spent (noted_next m.0 r)) × (r ≢ most → m'.0 ≡ noted_next m.0 r)

  abbrev pub drew : Step (Option T) → SeatState T E → ℕ → SeatState T E → Type 0
  drew st m r m' = (m'.1 ≡ m.1) × (m.0.loaded ≤ r) × (r ≡ st.first → m'.0 ≡ drawn (noted_next m.0 r) st.first) × (r ≢ st.first → m'.0 ≡ noted_next m.0 r)

  abbrev pub saw_serving : Step (Option T) → SeatState T E → ℕ → SeatState T E → Type 0
  saw_serving st m r m' = (m' ≡ (noted_serving m.0 r, m.1)) × (m.0.loaded ≤ r) × (m.0.kept.first + length m.0.kept.seen ≤ r)

  abbrev pub compared : (E → ℕ) → Step (Option T) → SeatState T E → ℕ → SeatState T E → Type 0
  compared seat_of st m r m' = (m' ≡ (caught_up m.0 r, m.1)) × StartsWith (longer m.0.kept.seen m.0.heard) m.0.kept.seen × StartsWith (longer m.0.kept.seen m.0.heard) m.0.heard
      × (m.0.kept.mine ≡ of_seat seat_of m.0.kept.number m.0.kept.seen → m.0.kept.mine ≡ of_seat seat_of m.0.kept.number (longer m.0.kept.seen m.0.heard))

  abbrev pub raised_to : Step (Option T) → SeatState T E → ℕ → SeatState T E → Type 0
  raised_to st m r m' = (m' ≡ (raises m.0 r st.first, m.1)) × (m.0.kept.known ≤ r)

  abbrev pub saw_floor : Step (Option T) → SeatState T E → ℕ → SeatState T E → Type 0
  saw_floor st m r m' = (m' ≡ (knows_floor m.0 r, m.1)) × (m.0.kept.known ≤ r)

  abbrev pub entered : Step (Option T) → SeatState T E → ℕ → SeatState T E → Type 0
  entered st m r m' = m' ≡ (nobody, [])

  abbrev pub stored_bed : Step (Option T) → SeatState T E → ℕ → SeatState T E → Type 0
  stored_bed st m r m' = m' ≡ (marked m.0, m.1)

  -- at the turn t the value x stands for the list of all turns so far
  abbrev pub Finds : (T → ℕ → List E → Type 0) → (T → ℕ) → View E → ℕ → List E → T → Type 0
  Finds stands floor_of v t found x = stands x v.kept.first found × StartsWith found v.kept.seen × (v.kept.first + length found ≡ t) × (v.kept.known ≤ floor_of x)

  -- the turn came, and with it the value that was at home
  abbrev pub Takes : (T → ℕ → List E → Type 0) → (T → ℕ) → SeatState T E → ℕ → SeatState T E → Type 0
  Takes stands floor_of m t m' = (found : List E) × (x : T) × (m' ≡ (holding m.0 t found, (0, Some x) ∷ m.1)) × Finds stands floor_of m.0 t found x

  -- the turn came, and the value is out
  abbrev pub Took : (T → ℕ → List E → Type 0) → (T → ℕ) → View E → ℕ → T → SeatState T E → Type 0
  Took stands floor_of v t x m' = (found : List E) × (m' ≡ (holding v t found, (0, None) ∷ [])) × Finds stands floor_of v t found x

  -- the seat drew the ticket t, and its turn hasn't come
  abbrev pub HasDrawn : ℕ → SeatState T E → Type 0
  HasDrawn t m = (m.0.sits ≡ true) × (m.0.ticket ≡ Some t) × (m.0.holds ≡ false) × (m.1 ≡ [])

  abbrev pub Waits : (T → ℕ → List E → Type 0) → (T → ℕ) → SeatState T E → ℕ → SeatState T E → Type 0
  Waits stands floor_of m r m' = (m.0.loaded ≤ r) × (m.0.kept.first + length m.0.kept.seen ≤ r) × ((t : ℕ) → m.0.ticket ≡ Some t → (r ≤ t) × (r ≡ t → Takes stands floor_of m t m') × (r ≢ t → m' ≡ (looked m.0 r, m.1)))

  abbrev pub awaited : (T → ℕ → List E → Type 0) → (T → ℕ) → Step (Option T) → SeatState T E → ℕ → SeatState T E → Type 0
  awaited stands floor_of st m r m' = Waits stands floor_of m r m'

  abbrev pub released : (E → ℕ) → (T → ℕ) → List E → Step (Option T) → SeatState T E → ℕ → SeatState T E → Type 0
  released seat_of floor_of entries st m r m' = ((y : T) → m.1 ≡ (0, Some y) ∷ [] → m.0.kept.known ≤ floor_of y) × (m' ≡ (ended m.0 entries, rest m.1)) × (m.0.kept.mine ≡ of_seat seat_of m.0.kept.number m.0.found)

  -- what the other had seen is heard
  abbrev pub HearsOf : (E → ℕ) → List E → ℕ → SeatState T E → SeatState T E → Type 0
  HearsOf seat_of other known m m' = (n : ℕ) × (m' ≡ (caught_up (record m.0 { kept = record m.0.kept { known = max m.0.kept.known known }; looks = Ignored ∷ m.0.looks; heard = other }) n, m.1)) × StartsWith (longer m.0.kept.seen other) m.0.kept.seen × StartsWith (longer m.0.kept.seen other) other
      × (m.0.kept.mine ≡ of_seat seat_of m.0.kept.number m.0.kept.seen → m.0.kept.mine ≡ of_seat seat_of m.0.kept.number (longer m.0.kept.seen other))

-- a seat found that no ticket is left
abbrev pub FindsSpent : {T E : Type 0} → SeatState T E → SeatState T E → Type 0
FindsSpent m m' = (n : ℕ) × (m' ≡ (met_spent (looking (looked m.0 n) m'.0.looks), m.1))

-- what a refused turn tells
abbrev pub DeniedAt : {T E : Type 0} → SeatState T E → Denied → SeatState T E → Type 0
DeniedAt m (Busy served next) m' = (served < next) × (m.0.kept.first + length m.0.kept.seen ≤ served) × (m.0.kept.spent ≡ false) × HasLooked m.0.looks served next m'.0.looks × (m' ≡ (looking (looked m.0 served) m'.0.looks, m.1))
DeniedAt m Spent m' = FindsSpent m m'

-- what a seat knows that looked for a free turn in vain, or found that no ticket is left
abbrev pub PutOffAt : {T E : Type 0} → SeatState T E → Denied → SeatState T E → Type 0
PutOffAt m (Busy served next) m' = m' ≡ (looking (looked m.0 m'.0.loaded) m'.0.looks, m.1)
PutOffAt m Spent m' = FindsSpent m m'

-- a seat that hadn't met the end of all tickets has drawn this one, and found that it is served
abbrev pub DrawsServed : {T E : Type 0} → SeatState T E → SeatState T E → ℕ → Type 0
DrawsServed m m' n = (n < 2 ^ 64 - 1) × (m' ≡ (drawn (looking (looked m.0 n) m'.0.looks) n, m.1)) × (m.0.kept.spent ≡ false)
