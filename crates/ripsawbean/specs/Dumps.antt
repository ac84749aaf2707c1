-- What asking for a piece of a dump tells the program (this project's own).
use Rattle.std.specs.Prelude.{ℕ, zero, suc, List, [], ◌∷◌, ◌++◌, ◌≡◌, ◌≤◌, ◌<◌, ◌⊎◌, ◌||◌, drop, length, nat_lt, take, if◌then◌else◌, Option, Some, None}
use Rattle.ripsawbean.specs.Prelude.{Database, DumpPiece, Event, StandsFor, effects_of}
use Rattle.timestamps.specs.declared.ts.TheConstants.{MAX}
use Rattle.embedded.specs.Dumping.{IsPiece}
use Rattle.embedded.specs.declared.dumping.DumpPlace.{DumpPlace}
use Rattle.ripsawbean.specs.declared.dump.DumpPlaceRecord.{DumpPlaceRecord}

-- no bytes are no key
abbrev pub key_of : List ℕ → Option (List ℕ)
key_of [] = None
key_of (b ∷ bytes) = Some (b ∷ bytes)

abbrev pub key_bytes : Option (List ℕ) → List ℕ
key_bytes None = []
key_bytes (Some key) = key

-- the place that a record and the bytes at the front of the key tell
abbrev pub place_at : DumpPlaceRecord → (key : List ℕ) → DumpPlace
place_at place key = record { ts = place.timestamp; key = key_of (take place.key key) }

-- where the next piece begins, in a record; all 0 but the end where the dump has ended
abbrev pub place_record : Option DumpPlace → DumpPlaceRecord
place_record None = record { timestamp = 0; key = 0; ended = 1 }
place_record (Some place) = record { timestamp = place.ts; key = length (key_bytes place.key); ended = 0 }

-- the bytes of its key
abbrev pub next_key : Option DumpPlace → List ℕ
next_key None = []
next_key (Some place) = key_bytes place.key

-- bytes stand at the front of others, which are as they were behind them
abbrev pub in_front : (bytes old : List ℕ) → List ℕ
in_front bytes old = bytes ++ drop (length bytes) old

-- there is room for each key
abbrev pub HasKeyRoom : List ℕ → Type 0
HasKeyRoom key = 256 ≤ length key

-- why no piece is asked for: `at` is no timestamp; or there is no room for a key, or the place's is none
abbrev pub dump_fault : (at : ℕ) → DumpPlaceRecord → (key : List ℕ) → Option ℕ
dump_fault at place key = if nat_lt MAX at then Some 3 else (if nat_lt (length key) 256 || nat_lt 256 place.key then Some 4 else None)

-- all that the program lends is as it was
pub record AreSame (place place' : DumpPlaceRecord) (key key' out out' : List ℕ) : Type 0 where
  pub place_same : place' ≡ place
  pub key_same : key' ≡ key
  pub out_same : out' ≡ out

-- the piece is shown, its length is told, and where the next one begins
pub record IsShown (piece : DumpPiece) (place' : DumpPlaceRecord) (key key' out out' : List ℕ) (length' : ℕ) : Type 0 where
  pub told : length' ≡ length piece.text.items
  pub within : length' ≤ length out
  pub shown : out' ≡ in_front piece.text.items out
  pub next : place' ≡ place_record piece.next
  pub next_bytes : key' ≡ in_front (next_key piece.next) key

-- the first lines have no room, and their length is told
pub record HasNoRoom (piece : DumpPiece) (out : List ℕ) (length' : ℕ) : Type 0 where
  pub told : length' ≡ length piece.text.items
  pub above : length out < length'

-- one or the other, by the number
abbrev pub IsShownOrNot : DumpPiece → (number : ℕ) → (place place' : DumpPlaceRecord) (key key' out out' : List ℕ) → (length' : ℕ) → Type 0
IsShownOrNot piece zero place place' key key' out out' length' = IsShown piece place' key key' out out' length'
IsShownOrNot piece (suc n) place place' key key' out out' length' = (suc n ≡ 14) × AreSame place place' key key' out out' × HasNoRoom piece out length'

-- what is told of a place where the dump hasn't ended
abbrev pub IsToldPiece : Database → (at through : ℕ) → (place place' : DumpPlaceRecord) (key key' out out' : List ℕ) → (number length' : ℕ) → Type 0
IsToldPiece d at through place place' key key' out out' zero length' =
    (h : List Event) → StandsFor d h → (piece : DumpPiece) × IsPiece (effects_of h) at through (place_at place key) (length out) piece × IsShown piece place' key key' out out' length'
IsToldPiece d at through place place' key key' out out' (suc n) length' =
    AreSame place place' key key' out out' × (((suc n ≡ 12) × (length' ≡ 0))
    ⊎ ((suc n ≡ 14) × ((h : List Event) → StandsFor d h → (piece : DumpPiece) × IsPiece (effects_of h) at through (place_at place key) (length out) piece × HasNoRoom piece out length')))

-- a place where the dump has ended stays, and shows nothing
abbrev pub IsToldAt : (ended : ℕ) → Database → (at through : ℕ) → (place place' : DumpPlaceRecord) (key key' out out' : List ℕ) → (number length' : ℕ) → Type 0
IsToldAt zero d at through place place' key key' out out' number length' = IsToldPiece d at through place place' key key' out out' number length'
IsToldAt (suc n) d at through place place' key key' out out' number length' = (number ≡ 0) × (length' ≡ 0) × AreSame place place' key key' out out'

-- what is told of a database
abbrev pub IsTold : Option ℕ → Database → (at through : ℕ) → (place place' : DumpPlaceRecord) (key key' out out' : List ℕ) → (number length' : ℕ) → Type 0
IsTold (Some fault) d at through place place' key key' out out' number length' = (number ≡ fault) × (length' ≡ 0) × AreSame place place' key key' out out'
IsTold None d at through place place' key key' out out' number length' = IsToldAt place.ended d at through place place' key key' out out' number length'

-- the same of a handle
abbrev pub ToldDump : Option Database → (at through : ℕ) → (place place' : DumpPlaceRecord) (key key' out out' : List ℕ) → (number length' : ℕ) → Type 0
ToldDump (Some d) at through place place' key key' out out' number length' = IsTold (dump_fault at place key) d at through place place' key key' out out' number length'
ToldDump None at through place place' key key' out out' number length' = (number ≡ 16) × (length' ≡ 0) × AreSame place place' key key' out out'
