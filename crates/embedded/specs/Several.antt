-- The calls of several lines, one after another (this project's own).
use Rattle.std.specs.Prelude.{ℕ, List, [], ◌∷◌, ◌++◌, ◌==◌, ◌≡◌, ◌≤◌, ◌<◌, ◌-◌, ◌⊎◌, ◌&&◌, Bool, true, false, not, length, map, drop, if◌then◌else◌, Result, Ok, Err}
use Rattle.embedded.specs.Prelude.{Cmd, Effect, Event, IsOwnPoll, Two, command_at, effects_of, flat_map, is_long, table, Database, CallError}
use Rattle.word_lines.specs.Faults.{code_of}
use Rattle.embedded.specs.Embedded.{StandsFor, Called, last_of, text_of}
use Rattle.embedded.specs.declared.database.CallError.TheVariants.{Fault, NoMemory, Unwritten}
use Rattle.embedded.specs.declared.several.Done.{Done}
use Rattle.embedded.specs.declared.several.Taken.{Taken}

-- the first line of bytes: through the first newline, or all where there is none
unfoldable pub first_line : List ℕ → List ℕ
first_line [] = []
first_line (b ∷ bytes) = if b == 10 then b ∷ [] else b ∷ first_line bytes

-- the answer would have more bytes of rows or messages than are let through; 18446744073709551615 lets all through
abbrev pub is_too_long : List Effect → (seat most : ℕ) → Cmd → Bool
is_too_long p seat most cmd = not (most == 18446744073709551615) && is_long p seat most cmd

-- a history goes on by an event, where a call was made that ended so
abbrev pub GoesOn : List Event → Result (Unit {0}) CallError → List Event → Type 0
GoesOn h (Ok _) h' = (e : Event) × (h' ≡ e ∷ h)
GoesOn h (Err Unwritten) h' = (e : Event) × (h' ≡ e ∷ h)
GoesOn h (Err _) h' = h' ≡ h

-- a line that was taken: what is noted of it, and the text that was shown
pub record Step : Type 0 where
  pub line : List ℕ
  pub note : Done
  pub shown : List ℕ

-- the text of a call was shown whole, where there is room for so much; or the line is faulty, and none was; or the text ran out of memory
abbrev pub IsNoted : (room : ℕ) → Database → Result (Unit {0}) CallError → Step → Type 0
IsNoted room d (Ok _) s =
    ((length (text_of (last_of d)) ≤ room) × (s.note ≡ record { length = length (text_of (last_of d)); status = 0 }) × (s.shown ≡ text_of (last_of d)))
    ⊎ ((room < length (text_of (last_of d))) × (s.note ≡ record { length = length (text_of (last_of d)); status = 14 }) × (s.shown ≡ []))
IsNoted room d (Err (Fault f)) s = (s.note ≡ record { length = 0; status = code_of f }) × (s.shown ≡ [])
IsNoted room d (Err Unwritten) s = (s.note ≡ record { length = 0; status = 14 }) × (s.shown ≡ [])
IsNoted room d (Err _) s = ⊥

-- one line's call, from h to h', where there is room for so much of its text
pub record IsCall (room : ℕ) (h : List Event) (d : Database) (s : Step) (h' : List Event) (d' : Database) : Type 0 where
  pub outcome : Result (Unit {0}) CallError
  pub called : Called h s.line d outcome d'
  pub noted : IsNoted room d' outcome s
  pub stands : StandsFor d' h'
  pub grown : GoesOn h outcome h'

-- a line's command, where it has one, has no answer that is too long
abbrev pub IsLetThrough : (most : ℕ) → List Event → (line : List ℕ) → Type 0
IsLetThrough most h line = (x : ℕ × Cmd) → command_at Two table 64 line ≡ Ok x → is_too_long (effects_of h) x.0 most x.1 ≡ false

-- a line whose answer would be too long makes no call, and is noted so
pub record IsPassedOver (most : ℕ) (h : List Event) (d : Database) (s : Step) (h' : List Event) (d' : Database) : Type 0 where
  pub read : ℕ × Cmd
  pub is : command_at Two table 64 s.line ≡ Ok read
  pub long : is_too_long (effects_of h) read.0 most read.1 ≡ true
  pub unspent : length h ≡ 18446744073709551615 → ⊥
  pub note : s.note ≡ record { length = 0; status = 25 }
  pub shown : s.shown ≡ []
  pub database : d' ≡ d
  pub history : h' ≡ h

-- a line that was taken makes its call, or is passed over
abbrev pub IsStep : (room most : ℕ) → List Event → Database → Step → List Event → Database → Type 0
IsStep room most h d s h' d' = (IsCall room h d s h' d' × IsLetThrough most h s.line) ⊎ IsPassedOver most h d s h' d'

-- the command polls the seat's own feed, whose messages are looked at first, because not all are let through
abbrev pub IsLookedAt : (most : ℕ) → List Event → ℕ → Cmd → Type 0
IsLookedAt most h seat cmd = IsOwnPoll (effects_of h) seat cmd × (most ≡ 18446744073709551615 → ⊥)

-- the line of such a poll
abbrev pub IsPollLine : (most : ℕ) → List Event → List ℕ → Type 0
IsPollLine most h line = (x : ℕ × Cmd) × (command_at Two table 64 line ≡ Ok x) × IsLookedAt most h x.0 x.1

-- a line can't be called: as by itself, or where it is such a poll's, and the look runs out of memory
abbrev pub IsUncalled : (most : ℕ) → List Event → List ℕ → Database → CallError → Type 0
IsUncalled most h line d NoMemory = Called h line d (Err NoMemory) d ⊎ (IsPollLine most h line × (length h ≡ 18446744073709551615 → ⊥))
IsUncalled most h line d error = Called h line d (Err error) d

-- a line was taken by a step, whose text stands at the front of the room; or it can't be called, and all is as it was
abbrev pub IsTaken : (most : ℕ) → List Event → List ℕ → (old : Database) (out out' : List ℕ) → Result Done CallError → Database → Type 0
IsTaken most h line old out out' (Ok note) new =
    (s : Step) × (h' : List Event) × (s.line ≡ line) × (s.note ≡ note) × IsStep (length out) most h old s h' new
    × (out' ≡ s.shown ++ drop (length s.shown) out)
IsTaken most h line old out out' (Err (Fault f)) new = ⊥
IsTaken most h line old out out' (Err Unwritten) new = ⊥
IsTaken most h line old out out' (Err error) new = (out' ≡ out) × (new ≡ old) × IsUncalled most h line old error

-- the same of a line that makes its call
abbrev pub IsTakenBy : List Event → List ℕ → (old : Database) (out out' : List ℕ) → Result Done CallError → Database → Type 0
IsTakenBy h line old out out' (Ok note) new =
    (s : Step) × (h' : List Event) × (s.line ≡ line) × (s.note ≡ note) × IsCall (length out) h old s h' new
    × (out' ≡ s.shown ++ drop (length s.shown) out)
IsTakenBy h line old out out' (Err (Fault f)) new = ⊥
IsTakenBy h line old out out' (Err Unwritten) new = ⊥
IsTakenBy h line old out out' (Err error) new = (out' ≡ out) × (new ≡ old) × Called h line old (Err error) old

-- a text stands at the front of the room, where there is room for it; else none does
abbrev pub IsShown : (text out out' : List ℕ) → Done → Type 0
IsShown text out out' note =
    ((length text ≤ length out) × (note ≡ record { length = length text; status = 0 }) × (out' ≡ text ++ drop (length text) out))
    ⊎ ((length out < length text) × (note ≡ record { length = length text; status = 14 }) × (out' ≡ out))

-- the lines' calls, one after another: where bytes are left, the first line of them is taken
abbrev pub AreSteps : (room most : ℕ) → List Event → Database → List ℕ → List Step → List ℕ → List Event → Database → Type 0
AreSteps room most h d bytes [] left h' d' = (left ≡ bytes) × (h' ≡ h) × (d' ≡ d)
AreSteps room most h d bytes (s ∷ steps) left h' d' =
    (0 < length bytes) × (h1 : List Event) × (d1 : Database) × (s.line ≡ first_line bytes) × IsStep room most h d s h1 d1
    × AreSteps (room - length s.shown) most h1 d1 (drop (length s.line) bytes) steps left h' d'

-- why no further line was taken: none is left, or no room for its note; or the last one's text wasn't shown; or the next one's note has room, and it can't be called
abbrev pub EndsBy : (most : ℕ) → List Event → Database → (left : List ℕ) → (steps : List Step) → (room : ℕ) → Result (Unit {0}) CallError → Type 0
EndsBy most h d left steps room (Ok _) = (left ≡ []) ⊎ (length steps ≡ room)
EndsBy most h d left steps room (Err Unwritten) = (before : List Step) × (s : Step) × (steps ≡ before ++ s ∷ []) × (s.note.status ≡ 14)
EndsBy most h d left steps room (Err (Fault f)) = ⊥
EndsBy most h d left steps room (Err error) = (length steps < room) × IsUncalled most h (first_line left) d error

-- the calls of several lines on a database that holds h: what was noted and shown, how far they were taken, and why no further
pub record HaveBeenCalled (most : ℕ) (h : List Event) (lines : List ℕ) (old : Database) (out out' : List ℕ) (notes notes' : List Done) (taken : Taken) (result : Result (Unit {0}) CallError) (new : Database) : Type 0 where
  pub steps : List Step
  pub left : List ℕ
  pub after : List Event
  pub called : AreSteps (length out) most h old lines steps left after new
  pub stands : StandsFor new after
  pub ends : EndsBy most after new left steps (length notes) result
  -- only the last text may be missing, and then that is told
  pub whole : (before behind : List Step) (s : Step) → steps ≡ before ++ s ∷ behind → s.note.status ≡ 14 → (behind ≡ []) × (result ≡ Err Unwritten)
  pub counted : taken ≡ record { lines = length steps; bytes = length lines - length left; length = length (flat_map (λ s. s.shown) steps) }
  pub shown : out' ≡ flat_map (λ s. s.shown) steps ++ drop (length (flat_map (λ s. s.shown) steps)) out
  pub noted : notes' ≡ map (λ s. s.note) steps ++ drop (length steps) notes
