-- What each typed call tells the program, and what it does to the handle's database (this project's own).
use Rattle.std.specs.Prelude.{ℕ, zero, suc, List, ◌≡◌, ◌==◌, ◌<◌, ◌⊎◌, nat_le, nat_lt, Bool, true, false, ◌&&◌, ◌||◌, if◌then◌else◌, length, Option, Some, None, Result, Ok, Err}
use Rattle.embedded.specs.declared.typed.Answer.{Answer}
use Rattle.ripsawbean.specs.Prelude.{Cmd, Copied, Database, Event, HasBulk, HasStepped, StandsFor, answer_of, bytes_of, last_of, numbers, Unfit}
use Rattle.ripsawbean.specs.declared.typed.Unfit.TheVariants.{KeyLength, ValueLength, NoMemory}

-- why no command can be made of a part: its number
abbrev pub seat_fault : ℕ → Option ℕ
seat_fault seat = if nat_lt seat 64 then None else Some 6

abbrev pub key_fault : List ℕ → Option ℕ
key_fault key = if nat_le 1 (length key) && nat_le (length key) 256 then None else Some 4

abbrev pub value_fault : List ℕ → Option ℕ
value_fault value = if nat_le (length value) 65536 then None else Some 5

-- the first fault of two
infixr 20 ◌or◌
abbrev pub ◌or◌ : Option ℕ → Option ℕ → Option ℕ
(Some n) or later = Some n
None or later = later

-- few bytes are kept in place; more take memory
abbrev pub IsLong : List ℕ → Type 0
IsLong bytes = 24 < length bytes

-- the call of a seat's command was made
abbrev pub Steps : ℕ → Cmd → Database → Database → Type 0
Steps seat cmd old new = (h : List Event) → StandsFor old h → HasStepped h seat cmd new

-- no position is left
abbrev pub IsSpent : Database → Type 0
IsSpent old = (h : List Event) → StandsFor old h → length h ≡ 18446744073709551615

-- a position is left
abbrev pub IsUnspent : Database → Type 0
IsUnspent old = (h : List Event) → StandsFor old h → length h ≡ 18446744073709551615 → ⊥

-- one call was made on a database, or none: parts with a fault make none, and only long parts want memory
abbrev pub MadeOn : (fault : Option ℕ) (wants : Type 0) (seat : ℕ) (cmd : Cmd) (old : Database) (number : ℕ) (new : Database) → Type 0
MadeOn (Some n) wants seat cmd old number new = (number ≡ n) × (new ≡ old)
MadeOn None wants seat cmd old number new =
    ((number ≡ 0) × Steps seat cmd old new)
    ⊎ ((number ≡ 12) × (new ≡ old) × wants)
    ⊎ ((number ≡ 13) × (new ≡ old) × IsSpent old)

-- the same of a call whose answer has messages or rows: where their bytes find no memory the call was made all the same
abbrev pub PolledOn : (fault : Option ℕ) (seat : ℕ) (cmd : Cmd) (old : Database) (number : ℕ) (new : Database) → Type 0
PolledOn (Some n) seat cmd old number new = (number ≡ n) × (new ≡ old)
PolledOn None seat cmd old number new =
    ((number ≡ 0) × Steps seat cmd old new)
    ⊎ ((number ≡ 14) × Steps seat cmd old new × HasBulk (last_of new))
    ⊎ ((number ≡ 13) × (new ≡ old) × IsSpent old)

-- what is said of an open handle's database; a closed handle stays closed
abbrev pub OfHandle : (Database → ℕ → Database → Type 0) → Option Database → ℕ → Option Database → Type 0
OfHandle P (Some old) number (Some new) = P old number new
OfHandle P (Some old) number None = ⊥
OfHandle P None number new = (number ≡ 16) × (new ≡ None)

-- the same of a call's handle, whose command has no key, a key, or a key and a value; and of a poll's
abbrev pub MadeAlone : (seat : ℕ) (cmd : Cmd) (old : Option Database) (number : ℕ) (new : Option Database) → Type 0
MadeAlone seat cmd old number new = OfHandle (MadeOn (seat_fault seat) ⊥ seat cmd) old number new

abbrev pub MadeAtKey : (seat : ℕ) (key : List ℕ) (cmd : Cmd) (old : Option Database) (number : ℕ) (new : Option Database) → Type 0
MadeAtKey seat key cmd old number new = OfHandle (MadeOn (seat_fault seat or key_fault key) (IsLong key) seat cmd) old number new

abbrev pub MadeWithValue : (seat : ℕ) (key value : List ℕ) (cmd : Cmd) (old : Option Database) (number : ℕ) (new : Option Database) → Type 0
MadeWithValue seat key value cmd old number new =
    OfHandle (MadeOn (seat_fault seat or key_fault key or value_fault value) (IsLong key ⊎ IsLong value) seat cmd) old number new

abbrev pub MadePoll : (seat : ℕ) (cmd : Cmd) (old : Option Database) (number : ℕ) (new : Option Database) → Type 0
MadePoll seat cmd old number new = OfHandle (PolledOn (seat_fault seat) seat cmd) old number new

-- a call that was made tells its answer; else the answer is all 0
abbrev pub is_made : ℕ → Bool
is_made number = number == 0 || number == 14

abbrev pub AnsweredIf : Bool → Option Database → Answer → Type 0
AnsweredIf true (Some new) answer = answer ≡ answer_of (last_of new)
AnsweredIf true None answer = ⊥
AnsweredIf false new answer = answer ≡ numbers 0 0 0

abbrev pub Answered : ℕ → Option Database → Answer → Type 0
Answered number new answer = AnsweredIf (is_made number) new answer

-- at 0 the bytes of the last event's answer are shown, and their whole length told; at any other number nothing is
abbrev pub ShownBytes : ℕ → Option Database → (before after : List ℕ) → ℕ → Type 0
ShownBytes zero (Some new) before after length = Copied (bytes_of (last_of new)) before after length
ShownBytes zero None before after length = ⊥
ShownBytes (suc n) new before after length = (length ≡ 0) × (after ≡ before)

-- bytes are asked for again: only those of messages and rows find no memory
abbrev pub AskedBytes : Option Database → ℕ → Type 0
AskedBytes (Some d) number = (number ≡ 0) ⊎ ((number ≡ 14) × HasBulk (last_of d))
AskedBytes None number = number ≡ 16

abbrev pub number_of : Unfit → ℕ
number_of KeyLength = 4
number_of ValueLength = 5
number_of NoMemory = 12

-- what the parts make, or their fault; without a fault only parts that want memory make nothing
abbrev pub IsOf : {A : Type 0} → (fault : Option ℕ) (wants : Type 0) (whole : A) → Result A Unfit → Type 0
IsOf (Some n) wants whole (Ok x) = ⊥
IsOf (Some n) wants whole (Err unfit) = number_of unfit ≡ n
IsOf None wants whole (Ok x) = x ≡ whole
IsOf None wants whole (Err unfit) = (number_of unfit ≡ 12) × wants

-- no call is made of parts that make no command; a seat's fault comes first
abbrev pub Unmade : (seat : ℕ) → Unfit → Database → ℕ → Database → Type 0
Unmade seat unfit old number new = (number ≡ (if nat_lt seat 64 then number_of unfit else 6)) × (new ≡ old)

-- the call of the command that parts made, or why they made none
abbrev pub MadeOf : (seat : ℕ) → Result Cmd Unfit → Database → ℕ → Database → Type 0
MadeOf seat (Ok cmd) = MadeOn (seat_fault seat) ⊥ seat cmd
MadeOf seat (Err unfit) = Unmade seat unfit

-- the same where the answer's bytes are asked for
abbrev pub ShownOf : (seat : ℕ) → Result Cmd Unfit → Database → ℕ → Database → Type 0
ShownOf seat (Ok cmd) = PolledOn (seat_fault seat) seat cmd
ShownOf seat (Err unfit) = Unmade seat unfit
