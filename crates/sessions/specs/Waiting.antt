-- The bytes of an input that were read and not yet taken, and what comes next in them.
use Rattle.std.specs.Prelude.{◌≡◌, ℕ, ◌+◌, ◌-◌, ◌<◌, ◌≤◌, ◌⊎◌, Bool, true, false, List, ◌++◌, length, take, drop, position, Some, None, [], Option, Result, Ok, Err}
use Rattle.sessions.specs.Prelude.{Format, is_newline, line_limit, ServeEnd, Output}
use Rattle.sessions.specs.Devices.{Reads, with_failed_read, Writes, pending_of, HasTaken, HasBegun}
use Rattle.sessions.specs.declared.lines.Lines.{Lines}
use Rattle.sessions.specs.declared.ending.ServeEnd.TheVariants as end

-- the bytes that wait
abbrev pub waiting : Lines → List ℕ
waiting l = take (l.end - l.start) (drop l.start l.block.items)

-- whether the latest read found the end
abbrev pub has_ended : Lines → Bool
has_ended l = l.ended

-- the format whose lines they are
abbrev pub format_of : Lines → Format
format_of l = l.format

-- so many bytes at the front are the next line: up to the first newline, or all of a line that is too long or the last
abbrev pub IsLine : Lines → ℕ → Type 0
IsLine l n =
    ((at : ℕ) × (Some at ≡ position is_newline (waiting l)) × (n ≡ at + 1))
    ⊎ ((None ≡ position is_newline (waiting l)) × (n ≡ length (waiting l)) × (0 < n) × ((l.ended ≡ true) ⊎ (line_limit l.format < n)))

-- neither a whole line waits, nor more bytes than a line may have, and the input may go on
abbrev pub WantsMore : Lines → Type 0
WantsMore l = (None ≡ position is_newline (waiting l)) × (length (waiting l) ≤ line_limit l.format) × (l.ended ≡ false)

-- where no whole line waits, more bytes wait than a line may have, or the input is at its end
abbrev pub HasEnough : Lines → Type 0
HasEnough l = None ≡ position is_newline (waiting l) → (l.ended ≡ true) ⊎ (line_limit l.format < length (waiting l))

-- the bytes that wait stand at the front of the block
pub record IsMoved (old new : Lines) : Type 0 where
  pub waits : waiting new ≡ waiting old
  pub ended : new.ended ≡ old.ended
  pub front : new.start ≡ 0
  pub room : new.end ≤ line_limit old.format
  pub format : new.format ≡ old.format

-- one read: what it gave waits behind the rest, and the end is known where it was found; where it wasn't, a byte at least was given
pub record IsRead (old new : Lines) (r r' : Reads) : Type 0 where
  pub got : List ℕ
  pub gave : r'.given ≡ r.given ++ got
  pub waits : waiting new ≡ waiting old ++ got
  pub found : new.ended ≡ r'.ended
  pub some : new.ended ≡ false → 0 < length got
  pub format : new.format ≡ old.format
  pub worked : r'.failures ≡ r.failures

-- a read failed, and all stays as it was
pub record IsUnread (old new : Lines) (r r' : Reads) : Type 0 where
  pub waits : waiting new ≡ waiting old
  pub ended : new.ended ≡ old.ended
  pub format : new.format ≡ old.format
  pub failed : r' ≡ with_failed_read r

-- so many bytes at the front are the next line; or nothing waits, and the input is at its end
abbrev pub IsNextLine : Lines → Option ℕ → Type 0
IsNextLine l (Some n) = (n ≤ length (waiting l)) × IsLine l n
IsNextLine l None = (waiting l ≡ []) × (has_ended l ≡ true)

-- what reads gave waits behind the rest; where there was one that succeeded, it told whether the input is at its end
pub record HasReadOn (old new : Lines) (r r' : Reads) : Type 0 where
  pub got : List ℕ
  pub gave : r'.given ≡ r.given ++ got
  pub waits : waiting new ≡ waiting old ++ got
  pub format : format_of new ≡ format_of old
  pub found : ((has_ended new ≡ has_ended old) × (r'.ended ≡ r.ended)) ⊎ (has_ended new ≡ r'.ended)

-- the next line was found, or why not: how often reads and writes failed, and what was written of what waits. Where a read failed no whole line waits
abbrev pub IsSought : Lines → Reads → Reads → Writes → Writes → (old new : Output) → Result (Option ℕ) ServeEnd → Type 0
IsSought l r r' w w' old new (Ok next) =
    IsNextLine l next × HasTaken w.taken w'.taken (pending_of old) (pending_of new) × (r'.failures ≡ r.failures) × (w'.failures ≡ w.failures)
IsSought l r r' w w' old new (Err end.Input) =
    (None ≡ position is_newline (waiting l)) × HasTaken w.taken w'.taken (pending_of old) (pending_of new) × (r'.failures ≡ r.failures + 1) × (w'.failures ≡ w.failures)
IsSought l r r' w w' old new (Err end.Output) =
    HasBegun w.taken w'.taken (pending_of old) × (r'.failures ≡ r.failures) × (w'.failures ≡ w.failures + 1)
IsSought l r r' w w' old new (Err _) = ⊥

-- nothing was read or written; or more was wanted, and all that was owed was written
abbrev pub IsNeeded : (old : Lines) → Reads → Reads → Writes → Writes → (before after : Output) → Result (Option ℕ) ServeEnd → Type 0
IsNeeded old r r' w w' before after (Ok _) =
    ((r' ≡ r) × (w' ≡ w) × (pending_of after ≡ pending_of before)) ⊎ (WantsMore old × (pending_of after ≡ []))
IsNeeded old r r' w w' before after (Err end.Input) = WantsMore old × (pending_of after ≡ [])
IsNeeded old r r' w w' before after (Err end.Output) = WantsMore old
IsNeeded old r r' w w' before after (Err _) = ⊥
