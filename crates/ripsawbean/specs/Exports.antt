-- What each function tells the program, and what it does to the handle's database (this project's own).
use Rattle.std.specs.Prelude.{ℕ, zero, suc, List, [], ◌≡◌, ◌⊎◌, nat_le, ◌&&◌, if◌then◌else◌, Bool, Option, Some, None, is_some, Result, Ok, Err}
use Rattle.ripsawbean.specs.Prelude.{CallError, Copied, Database, Event, Fault, HasLast, IsUnwritten, NoMemory, Spent, StandsFor, Unwritten, code_of, last_of, text_of}
use Rattle.embedded.specs.Embedded as db

-- the number that refuses an opening before memory is asked for: a feed holds 1 to 65536 rows
abbrev pub refusal_of : ℕ → Option Database → Option ℕ
refusal_of ring old = if nat_le 1 ring && nat_le ring 65536 then (if is_some old then Some 17 else None) else Some 15

-- a handle that was closed is open on a database with no event, or there was no memory and it still is closed
abbrev pub Opened : ℕ → Option Database → Type 0
Opened zero (Some d) = StandsFor d []
Opened zero None = ⊥
Opened (suc n) new = (suc n ≡ 12) × (new ≡ None)

-- the number of a call that shows no text
abbrev pub number_of : CallError → ℕ
number_of (Fault f) = code_of f
number_of NoMemory = 12
number_of Spent = 13
number_of Unwritten = 14

-- the number of a call
abbrev pub outcome_number : Result (Unit {0}) CallError → ℕ
outcome_number (Ok _) = 0
outcome_number (Err error) = number_of error

-- one call of the line was made on the database, or none, by an outcome that has the number
pub record Numbered (line : List ℕ) (old : Database) (number : ℕ) (new : Database) : Type 0 where
  pub outcome : Result (Unit {0}) CallError
  pub called : (h : List Event) → StandsFor old h → db.Called h line old outcome new
  pub told : number ≡ outcome_number outcome

-- the same of a handle
abbrev pub Called : List ℕ → Option Database → ℕ → Option Database → Type 0
Called line (Some old) number (Some new) = Numbered line old number new
Called line (Some old) number None = ⊥
Called line None number new = (number ≡ 16) × (new ≡ None)

-- an event's text wasn't written, and ran out of memory
abbrev pub FoundNoMemory : Database → Database → Type 0
FoundNoMemory old new = HasLast old × IsUnwritten old × IsUnwritten new

-- no call was made; only an event's text that isn't written is out of memory
abbrev pub Rewritten : Database → ℕ → Database → Type 0
Rewritten old number new = ((h : List Event) → StandsFor old h → StandsFor new h) × ((number ≡ 0) ⊎ ((number ≡ 14) × FoundNoMemory old new))

-- the same of a handle
abbrev pub Asked : Option Database → ℕ → Option Database → Type 0
Asked (Some old) number (Some new) = Rewritten old number new
Asked (Some old) number None = ⊥
Asked None number new = (number ≡ 16) × (new ≡ None)

-- at 0 the text of the last event is shown, and its whole length told; at any other number nothing is
abbrev pub ToldOf : ℕ → (old new : Database) → (before after : List ℕ) → ℕ → Type 0
ToldOf zero old new before after length = (h : List Event) → StandsFor old h → Copied (text_of (last_of new)) before after length
ToldOf (suc n) old new before after length = (length ≡ 0) × (after ≡ before)

-- the same of a handle, which is open at 0
abbrev pub Told : ℕ → (old new : Option Database) → (before after : List ℕ) → ℕ → Type 0
Told zero (Some old) (Some new) before after length = (h : List Event) → StandsFor old h → Copied (text_of (last_of new)) before after length
Told zero (Some old) None before after length = ⊥
Told zero None new before after length = ⊥
Told (suc n) old new before after length = (length ≡ 0) × (after ≡ before)
