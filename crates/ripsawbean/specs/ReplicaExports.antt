-- What each function of a replica tells the program, and what it does to the handle's consumer (this project's own).
use Rattle.std.specs.Prelude.{ℕ, zero, suc, List, ◌≡◌, ◌⊎◌, Option, Some, None}
use Rattle.timestamps.specs.declared.key.KeyError.{KeyError}
use Rattle.timestamps.specs.declared.key.KeyError.TheVariants as keys
use Rattle.json_lines.specs.declared.fault.MessageFault.{MessageFault}
use Rattle.json_lines.specs.declared.fault.MessageFault.TheVariants as lines
use Rattle.ripsawbean.specs.Prelude.{AreKey, Begins, BeginsWith, Consumer, Copied, HasTaken, IsNoKey, IsNoMessage, IsReady, IsRefused, IsUnopened, IsUnseeded, ShowsRows, code_of, replica_of}
use Rattle.replica.specs.declared.fault.Fault.{Fault}
use Rattle.replica.specs.declared.fault.Fault.TheVariants as faults
use Rattle.replica.specs.Replicas.{view_in, through_in, complete_in}
use Rattle.embedded_replica.specs.declared.consumer.BeginError.{BeginError}
use Rattle.embedded_replica.specs.declared.consumer.BeginError.TheVariants as opening
use Rattle.embedded_replica.specs.declared.consumer.SeedingError.{SeedingError}
use Rattle.embedded_replica.specs.declared.consumer.SeedingError.TheVariants as seeding
use Rattle.embedded_replica.specs.declared.consumer.TakeError.{TakeError}
use Rattle.embedded_replica.specs.declared.consumer.TakeError.TheVariants as taking

-- a timestamp as a number; where there is none, a number that is no timestamp
abbrev pub number_or_none : Option ℕ → ℕ
number_or_none None = 18446744073709551615
number_or_none (Some t) = t

-- the numbers of what is refused
abbrev pub open_number : BeginError → ℕ
open_number (opening.Fault f) = code_of f
open_number opening.NoFeed = 22
open_number opening.NoMemory = 12

abbrev pub begin_number : SeedingError → ℕ
begin_number (seeding.Fault f) = code_of f
begin_number seeding.NoFeed = 22
begin_number (seeding.Rows f) = 18
begin_number seeding.NotAfter = 19
begin_number seeding.OutsideSpan = 20
begin_number seeding.NoMemory = 12

abbrev pub line_number : MessageFault → ℕ
line_number lines.NotJson = 18
line_number lines.Shape = 18
line_number lines.Number = 18
line_number lines.Base64 = 18
line_number lines.Length = 18
line_number lines.NoMemory = 12

abbrev pub message_number : Fault → ℕ
message_number faults.NotAfter = 19
message_number faults.OutsideSpan = 20
message_number faults.ResolvedBack = 21
message_number faults.NoMemory = 12

abbrev pub take_number : TakeError → ℕ
take_number (taking.Line fault) = line_number fault
take_number (taking.Message fault) = message_number fault

abbrev pub key_number : KeyError → ℕ
key_number keys.KeyLength = 4
key_number keys.NoMemory = 12

-- an open handle is refused; a closed one is open on a consumer that begins by the line, or still closed
abbrev pub Opened : List ℕ → Option Consumer → ℕ → Option Consumer → Type 0
Opened line (Some old) number new = (number ≡ 17) × (new ≡ Some old)
Opened line None zero (Some new) = Begins line (replica_of new)
Opened line None zero None = ⊥
Opened line None (suc n) new = (new ≡ None) × (error : BeginError) × IsUnopened line error × (suc n ≡ open_number error)

-- the same of a consumer that begins by the line and with the rows
abbrev pub Begun : (line rows : List ℕ) → Option Consumer → ℕ → Option Consumer → Type 0
Begun line rows (Some old) number new = (number ≡ 17) × (new ≡ Some old)
Begun line rows None zero (Some new) = BeginsWith line rows (replica_of new)
Begun line rows None zero None = ⊥
Begun line rows None (suc n) new = (new ≡ None) × (error : SeedingError) × IsUnseeded line rows error × (suc n ≡ begin_number error)

-- the line was taken, or nothing changed
abbrev pub TakenBy : List ℕ → Consumer → ℕ → Consumer → Type 0
TakenBy line old zero new = HasTaken line (replica_of old) (replica_of new)
TakenBy line old (suc n) new = (new ≡ old) × (error : TakeError) × IsRefused line (replica_of old) error × (suc n ≡ take_number error)

-- the same of a handle
abbrev pub Taken : List ℕ → Option Consumer → ℕ → Option Consumer → Type 0
Taken line (Some old) number (Some new) = TakenBy line old number new
Taken line (Some old) number None = ⊥
Taken line None number new = (number ≡ 16) × (new ≡ None)

-- what is told of an open handle, which stays as it is; a closed one stays closed
abbrev pub Told : (Consumer → ℕ → Type 0) → Option Consumer → ℕ → Option Consumer → Type 0
Told P (Some old) number new = P old number × (new ≡ Some old)
Told P None number new = (number ≡ 16) × (new ≡ None)

-- no timestamp is told but at 0, and no byte is shown
abbrev pub NoTime : ℕ → ℕ → Type 0
NoTime zero at = Unit {0}
NoTime (suc n) at = at ≡ 18446744073709551615

abbrev pub Hidden : ℕ → (before after : List ℕ) → ℕ → Type 0
Hidden zero before after length = Unit {0}
Hidden (suc n) before after length = (length ≡ 0) × (after ≡ before)

-- at which timestamp the rows are the map, where the line's message shows it
abbrev pub ReadyBy : List ℕ → ℕ → Consumer → ℕ → Type 0
ReadyBy line at c zero = (time : Option ℕ) × IsReady line (replica_of c) time × (at ≡ number_or_none time)
ReadyBy line at c (suc n) = (fault : MessageFault) × IsNoMessage line fault × (suc n ≡ line_number fault)

-- through where it was told all, and at which timestamp its rows are the map after a resolved message
abbrev pub CompleteBy : (through at : ℕ) → Consumer → ℕ → Type 0
CompleteBy through at c number = (number ≡ 0) × (through ≡ number_or_none (through_in (replica_of c))) × (at ≡ number_or_none (complete_in (replica_of c)))

-- the value of the key is shown, or there is none at these bytes, which are a key
abbrev pub GotBy : List ℕ → (before after : List ℕ) → ℕ → Consumer → ℕ → Type 0
GotBy key before after length c zero = (value : List ℕ) × (view_in (replica_of c) key ≡ Some value) × Copied value before after length
GotBy key before after length c (suc n) = ((suc n ≡ 23) × AreKey key × (view_in (replica_of c) key ≡ None)) ⊎ ((error : KeyError) × IsNoKey key error × (suc n ≡ key_number error))

-- the lines of all rows are shown, or there is no memory for them
abbrev pub RowsBy : (before after : List ℕ) → ℕ → Consumer → ℕ → Type 0
RowsBy before after length c zero = ShowsRows (replica_of c) before after length
RowsBy before after length c (suc n) = suc n ≡ 12
