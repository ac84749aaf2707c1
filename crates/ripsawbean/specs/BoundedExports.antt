-- What the calls whose answer is to find room tell the program (this project's own).
use Rattle.std.specs.Prelude.{ℕ, zero, suc, List, [], ◌∷◌, ◌≡◌, ◌⊎◌, nat_le, ◌&&◌, if◌then◌else◌, length, Option, Some, None, Result, Ok, Err}
use Rattle.spans.specs.declared.span.Span.{Span}
use Rattle.ripsawbean.specs.Prelude.{command_within, Bounded, Database, Event, HasBulk, HasStepped, StandsFor, last_of, Unfit}
use Rattle.ripsawbean.specs.TypedExports.{◌or◌, IsSpent, IsUnspent, OfHandle, seat_fault, number_of}
use Rattle.ripsawbean.specs.declared.typed.Unfit.TheVariants.{NoMemory}

-- no bytes are no low bound
abbrev pub low_of : List ℕ → Option (List ℕ)
low_of [] = None
low_of (b ∷ bytes) = Some (b ∷ bytes)

-- bytes are a high bound where the program says that there is one
abbrev pub high_of : ℕ → List ℕ → Option (List ℕ)
high_of zero high = None
high_of (suc n) high = Some high

-- the span from the low bytes to the high ones
abbrev pub span_of : (low : List ℕ) (has_high : ℕ) (high : List ℕ) → Span
span_of low has_high high = record { lo = low_of low; hi = high_of has_high high }

-- a bound has 1 to 257 bytes
abbrev pub bound_fault : Option (List ℕ) → Option ℕ
bound_fault None = None
bound_fault (Some bytes) = if nat_le 1 (length bytes) && nat_le (length bytes) 257 then None else Some 4

abbrev pub span_fault : (low : List ℕ) (has_high : ℕ) (high : List ℕ) → Option ℕ
span_fault low has_high high = bound_fault (low_of low) or bound_fault (high_of has_high high)

-- the call of a seat's command was made, as far as its answer finds room
abbrev pub StepsWithin : ℕ → Bounded → Database → Database → Type 0
StepsWithin seat cmd old new = (h : List Event) → StandsFor old h → HasStepped h seat (command_within h cmd) new

-- one call was made on a database, or none: parts with a fault make none, and a position is asked for before memory
abbrev pub BoundedOn : (fault : Option ℕ) (seat : ℕ) (cmd : Bounded) (old : Database) (number : ℕ) (new : Database) → Type 0
BoundedOn (Some n) seat cmd old number new = (number ≡ n) × (new ≡ old)
BoundedOn None seat cmd old number new =
    ((number ≡ 0) × StepsWithin seat cmd old new)
    ⊎ ((number ≡ 14) × StepsWithin seat cmd old new × HasBulk (last_of new))
    ⊎ ((number ≡ 12) × (new ≡ old) × IsUnspent old)
    ⊎ ((number ≡ 13) × (new ≡ old) × IsSpent old)

-- the same of a handle: of a scan, whose span may have a fault, and of a poll
abbrev pub MadeScan : (seat : ℕ) (low : List ℕ) (has_high : ℕ) (high : List ℕ) (cmd : Bounded) (old : Option Database) (number : ℕ) (new : Option Database) → Type 0
MadeScan seat low has_high high cmd old number new = OfHandle (BoundedOn (seat_fault seat or span_fault low has_high high) seat cmd) old number new

abbrev pub MadePollWithin : (seat : ℕ) (cmd : Bounded) (old : Option Database) (number : ℕ) (new : Option Database) → Type 0
MadePollWithin seat cmd old number new = OfHandle (BoundedOn (seat_fault seat) seat cmd) old number new

-- what is told of parts that make no command: a position is asked for before memory
abbrev pub IsUnfit : Unfit → Database → ℕ → Type 0
IsUnfit NoMemory old number = ((number ≡ 12) × IsUnspent old) ⊎ ((number ≡ 13) × IsSpent old)
IsUnfit unfit old number = number ≡ number_of unfit

-- no call is made of them; a seat's fault comes first
abbrev pub IsUnmade : (fault : Option ℕ) → Unfit → Database → ℕ → Database → Type 0
IsUnmade (Some n) unfit old number new = (number ≡ n) × (new ≡ old)
IsUnmade None unfit old number new = IsUnfit unfit old number × (new ≡ old)

-- the call of the command that parts made, or why they made none
abbrev pub BoundedOf : (seat : ℕ) → Result Bounded Unfit → Database → ℕ → Database → Type 0
BoundedOf seat (Ok cmd) = BoundedOn (seat_fault seat) seat cmd
BoundedOf seat (Err unfit) = IsUnmade (seat_fault seat) unfit
