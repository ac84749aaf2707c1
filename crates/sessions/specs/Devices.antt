-- What proofs know of a source of bytes and of a sink, what one read or one write does to that, and how reading or
-- writing a whole ends (this project's own).
use Rattle.std.specs.Prelude.{◌≡◌, ℕ, ◌+◌, ◌-◌, ◌==◌, ◌<◌, ◌≤◌, ◌⊎◌, Bool, true, List, ◌++◌, length, [], Result, Ok, Err, Vec}
use Rattle.std.specs.Global.{Global}
use Rattle.sessions.specs.Prelude.{Output, ServeEnd}
use Rattle.sessions.specs.declared.devices.Reading.{Reading}
use Rattle.sessions.specs.declared.devices.Writing.{Writing}
use Rattle.sessions.specs.declared.devices.WriteFailed.{WriteFailed}
use Rattle.sessions.specs.declared.ending.ServeEnd.TheVariants as end

-- the bytes that reads gave, whether the latest that succeeded found the end, how many found it, and how many failed
pub record Reads : Type 0 where
  pub given : List ℕ
  pub ended : Bool
  pub ends : ℕ
  pub failures : ℕ

-- the bytes that writes have taken so far, and how many writes have failed, or taken nothing
pub record Writes : Type 0 where
  pub taken : List ℕ
  pub failures : ℕ

-- a read gave these bytes; none are the end
abbrev pub with_given : Reads → List ℕ → Reads
with_given r bytes = record { given = r.given ++ bytes; ended = length bytes == 0; ends = r.ends + (1 - length bytes); failures = r.failures }

abbrev pub with_failed_read : Reads → Reads
with_failed_read r = record { given = r.given; ended = r.ended; ends = r.ends; failures = r.failures + 1 }

-- the end was found, once
abbrev pub EndsOnce : Reads → Reads → Type 0
EndsOnce r r' = (r'.ended ≡ true) × (r'.ends ≡ r.ends + 1)

-- a write took these bytes
abbrev pub with_taken : Writes → List ℕ → Writes
with_taken w bytes = record { taken = w.taken ++ bytes; failures = w.failures }

abbrev pub with_failed_write : Writes → Writes
with_failed_write w = record { taken = w.taken; failures = w.failures + 1 }

-- what a reader keeps of its reads, and a writer of its writes
abbrev pub reads_of : {R : Type 0} → Reading R → Reads
reads_of s = record { given = s.given.bytes; ended = s.ended; ends = length s.ends.bytes; failures = length s.failed.bytes }

abbrev pub writes_of : {W : Type 0} → Writing W → Writes
writes_of s = record { taken = s.taken.bytes; failures = length s.failed.bytes }

-- the bytes that wait to be written
abbrev pub pending_of : Output → List ℕ
pending_of o = o.pending.items

-- a sink took a part of the bytes from their front, and these are left
pub record HasTaken (taken taken' bytes rest : List ℕ) : Type 0 where
  pub part : List ℕ
  pub took : taken' ≡ taken ++ part
  pub left : bytes ≡ part ++ rest

-- a sink took a part of the bytes from their front
abbrev pub HasBegun : List ℕ → List ℕ → List ℕ → Type 0
HasBegun taken taken' bytes = (rest : List ℕ) × HasTaken taken taken' bytes rest

-- of bytes that were to be written these are left, and no write failed; or one did, which was the last
abbrev pub HasWritten : Writes → Writes → (bytes rest : List ℕ) → Result (Unit {0}) WriteFailed → Type 0
HasWritten w w' bytes rest (Ok _) = HasTaken w.taken w'.taken bytes rest × (w'.failures ≡ w.failures)
HasWritten w w' bytes rest (Err _) = HasBegun w.taken w'.taken bytes × (w'.failures ≡ w.failures + 1)

-- what goes out goes in blocks: nothing was written since, or a block at least, and less than a block waits
abbrev pub GoesInBlocks : Writes → Writes → List ℕ → Type 0
GoesInBlocks w w' pending = ((w' ≡ w) ⊎ (length w.taken + 65536 ≤ length w'.taken)) × (length pending < 65536)

-- a source was read to its end, and not once more; or a read failed, which was the last; or memory was wanted
abbrev pub IsReadWhole : Reads → Reads → Result (Vec ℕ Global) ServeEnd → Type 0
IsReadWhole r r' (Ok whole) = (r'.given ≡ r.given ++ whole.items) × EndsOnce r r' × (r'.failures ≡ r.failures)
IsReadWhole r r' (Err end.Input) = r'.failures ≡ r.failures + 1
IsReadWhole r r' (Err end.Memory) = r'.failures ≡ r.failures
IsReadWhole r r' (Err _) = ⊥

-- of a text that was to be written this is left; or a write failed, which was the last; or memory was wanted
abbrev pub IsWrittenTo : (text rest : List ℕ) → Writes → Writes → Result (Unit {0}) ServeEnd → Type 0
IsWrittenTo text rest w w' (Ok _) = HasTaken w.taken w'.taken text rest × (w'.failures ≡ w.failures)
IsWrittenTo text rest w w' (Err end.Output) = HasBegun w.taken w'.taken text × (w'.failures ≡ w.failures + 1)
IsWrittenTo text rest w w' (Err end.Memory) = HasBegun w.taken w'.taken text × (w'.failures ≡ w.failures)
IsWrittenTo text rest w w' (Err _) = ⊥

-- it was written whole
abbrev pub IsWrittenWhole : List ℕ → Writes → Writes → Result (Unit {0}) ServeEnd → Type 0
IsWrittenWhole text w w' r = IsWrittenTo text [] w w' r
