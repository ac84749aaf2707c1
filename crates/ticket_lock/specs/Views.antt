-- What a seat of the table knows, what each step makes of that, and how a seat stands between two calls.
use Rattle.std.specs.Prelude.{ℕ, List, [], ◌∷◌, ◌++◌, map, max, Option, Some, None, true, false, cond, ◌≡◌, ◌<◌, Bool}
use Rattle.atomic_table.specs.Table.{Me}
use Rattle.atomic_table.specs.declared.shared.Seat.{Seat}
use Rattle.ticket_lock.specs.Lists.{span, head_or, tail, longer, of_seat}
use Rattle.ticket_lock.specs.declared.rule.SeatRecord.{SeatRecord}
use Rattle.ticket_lock.specs.declared.rule.Look.{Look}
use Rattle.ticket_lock.specs.declared.rule.Look.TheVariants.{Serving, Next, Floor, Ignored, Bed}
use Rattle.ticket_lock.specs.declared.rule.View.{View}
use Rattle.ticket_lock.specs.declared.rule.Setup.{Setup}

-- a view, with the slots that its seat has taken
abbrev pub SeatState : Type 0 → Type 0 → Type 0
SeatState T E = Me (Option T) (View E)

abbrev pub setup : ℕ → ℕ → Setup
setup first count = record { first = first; count = count }

module _ {E : Type 0} where
  abbrev pub fresh_record : ℕ → ℕ → SeatRecord E
  fresh_record first n = record { first = first; number = n; seen = []; mine = []; spent = false; known = 0 }

  -- no seat, but it still issues those of the numbers
  abbrev pub issuer : ℕ → List ℕ → View E
  issuer first numbers = record { sits = false; kept = fresh_record first 0; gathered = []; unissued = numbers; ticket = None; holds = false; found = []; raised = 0; loaded = 0; looks = []; heard = [] }

  -- a seat before its first turn
  abbrev pub seat : ℕ → ℕ → View E
  seat first n = record { sits = true; kept = fresh_record first n; gathered = []; unissued = []; ticket = None; holds = false; found = []; raised = 0; loaded = 0; looks = []; heard = [] }

  -- the table's first view: it issues all seats
  abbrev pub opener : Setup → View E
  opener k = issuer k.first (span 0 k.count)

  abbrev pub after_issue : View E → View E
  after_issue v = record v { unissued = tail v.unissued }

  abbrev pub issued : View E → View E
  issued v = seat v.kept.first (head_or v.unissued)

  -- no seat, with what was seen
  abbrev pub report : List E → ℕ → View E
  report seen known = record { sits = false; kept = record { first = 0; number = 0; seen = seen; mine = []; spent = false; known = known }; gathered = []; unissued = []; ticket = None; holds = false; found = []; raised = 0; loaded = 0; looks = []; heard = [] }

  -- what a joined view leaves
  abbrev pub nobody : View E
  nobody = report [] 0

  -- v has told what it has seen
  abbrev pub telling : View E → View E
  telling v = record v { looks = Ignored ∷ v.looks }

  abbrev pub report_of : View E → View E
  report_of v = report v.kept.seen v.kept.known

  -- v has taken in the report w
  abbrev pub hearing : View E → View E → View E
  hearing v w = record v { kept = record v.kept { known = max v.kept.known w.kept.known }; looks = Ignored ∷ v.looks; heard = w.kept.seen }

  -- no seat, but it has gathered seats that kept this
  abbrev pub gatherer : List (SeatRecord E) → View E
  gatherer records = record { sits = false; kept = record { first = 0; number = 0; seen = []; mine = []; spent = false; known = 0 }; gathered = records; unissued = []; ticket = None; holds = false; found = []; raised = 0; loaded = 0; looks = []; heard = [] }

  abbrev pub gathering : View E → View E → View E
  gathering v w = record v { gathered = w.kept ∷ v.gathered }

  -- what was heard of is seen too
  abbrev pub caught_up : View E → ℕ → View E
  caught_up v n = record v { kept = record v.kept { seen = longer v.kept.seen v.heard }; loaded = n; looks = Serving n ∷ v.looks; heard = [] }

  -- the numbers of the seats that it stands for
  abbrev pub numbers : View E → List ℕ
  numbers v = cond v.sits (v.kept.number ∷ []) [] ++ (map (λ c. c.number) v.gathered ++ v.unissued)

  abbrev pub met_spent : View E → View E
  met_spent v = record v { kept = record v.kept { spent = true } }

  abbrev pub drawn : View E → ℕ → View E
  drawn v n = record v { ticket = Some n }

  abbrev pub looked : View E → ℕ → View E
  looked v n = record v { loaded = n }

  -- with other looks
  abbrev pub looking : View E → List Look → View E
  looking v looks = record v { looks = looks }

  abbrev pub noted_serving : View E → ℕ → View E
  noted_serving v n = looking (looked v n) (Serving n ∷ v.looks)

  abbrev pub noted_next : View E → ℕ → View E
  noted_next v n = looking v (Next n ∷ v.looks)

  abbrev pub holding : View E → ℕ → List E → View E
  holding v n h = record v { holds = true; loaded = n; found = h }

  abbrev pub ended : View E → List E → View E
  ended v entries = record v { kept = record v.kept { seen = v.found ++ entries; mine = v.kept.mine ++ entries }; ticket = None; holds = false; found = []; raised = 0 }

  abbrev pub raises : View E → ℕ → ℕ → View E
  raises v r k = record v { kept = record v.kept { known = max r k }; raised = max v.raised k; looks = Floor r ∷ v.looks }

  abbrev pub knows_floor : View E → ℕ → View E
  knows_floor v r = record v { kept = record v.kept { known = r }; looks = Floor r ∷ v.looks }

  abbrev pub marked : View E → View E
  marked v = looking v (Bed ∷ v.looks)

abbrev pub has : Option ℕ → Bool
has None = false
has (Some t) = true

-- while the value is out, the seat has the empty slot
abbrev pub in_hand : {T : Type 0} → Bool → List (ℕ × Option T)
in_hand false = []
in_hand true = (0, None) ∷ []

module _ {T E : Type 0} where
  -- a seat between two calls
  pub record IsProper (seat_of : E → ℕ) (number : ℕ) (m : SeatState T E) : Type 0 where
    pub few : number < 64
    pub sits : m.0.sits ≡ true
    pub alone : m.0.gathered ≡ []
    pub issued_all : m.0.unissued ≡ []
    pub numbered : m.0.kept.number ≡ number
    pub turn : m.0.holds ≡ has m.0.ticket
    pub hand : m.1 ≡ in_hand m.0.holds
    pub rested : m.0.holds ≡ false → m.0.raised ≡ 0
    pub owned : m.0.kept.mine ≡ of_seat seat_of number m.0.kept.seen

  abbrev pub IsSamePass : Seat (Option T) (View E) → Seat (Option T) (View E) → Type 0
  IsSamePass p q = (q.table_id ≡ p.table_id) × (q.id ≡ p.id)
