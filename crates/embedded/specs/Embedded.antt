-- What an embedded database holds, and what a call of a line does to it (this project's own).
use Rattle.std.specs.Prelude.{ℕ, List, [], ◌∷◌, ◌≡◌, ◌≤◌, ◌⊎◌, length, reverse, Option, Some, None, Result, Ok, Err}
use Rattle.embedded.specs.Prelude.{Cmd, Event, Two, WantsMemory, byte_words_at, command_at, command_line, table, event_text, Database, CallError}
use Rattle.spans.specs.Legal.{IsLegal, IsGapless}
use Rattle.engine.specs.Engine as engines
use Rattle.embedded.specs.declared.database.CallError.TheVariants.{Fault, NoMemory, Spent, Unwritten}

-- the last event of a history, whose newest event stands first
abbrev pub newest : List Event → Option Event
newest [] = None
newest (e ∷ h) = Some e

-- its text; no byte where there is no event
abbrev pub text_of : Option Event → List ℕ
text_of None = []
text_of (Some e) = event_text e

-- the event that a database keeps
abbrev pub last_of : Database → Option Event
last_of d = d.last

-- what it has of that event's text
abbrev pub kept_text : Database → List ℕ
kept_text d = d.text.items

-- there is an event, so there is a text to write
abbrev pub HasLast : Database → Type 0
HasLast d = (e : Event) × (last_of d ≡ Some e)

-- it has all of the text, byte for byte
abbrev pub IsWritten : Database → Type 0
IsWritten d = kept_text d ≡ text_of (last_of d)

-- it has none of it
abbrev pub IsUnwritten : Database → Type 0
IsUnwritten d = kept_text d ≡ []

-- the last event is of this seat's command, and none of its text is there
abbrev pub HasKept : ℕ → Cmd → Database → Type 0
HasKept by cmd d = IsUnwritten d × ((e : Event) × (last_of d ≡ Some e) × (e.seat ≡ by) × (e.cmd ≡ cmd))

-- the line is the text of the last event's command
abbrev pub IsLastLine : Database → List ℕ → Type 0
IsLastLine d line = (e : Event) × (last_of d ≡ Some e) × (line ≡ command_line e.seat e.cmd)

-- the database is what a legal history without a gap led to, whose newest event stands first
pub record StandsFor (d : Database) (h : List Event) : Type 0 where
  pub stands : engines.StandsFor d.engine h
  pub legal : IsLegal h
  pub gapless : IsGapless 0 (reverse h)
  -- the greatest position is 18446744073709551614
  pub bounded : length h ≤ 18446744073709551615
  pub last : last_of d ≡ newest h
  pub text : IsWritten d ⊎ IsUnwritten d

-- the event is the line's command, and the database's history goes on by it
pub record Made (h : List Event) (line : List ℕ) (new : Database) (e : Event) : Type 0 where
  pub holds : StandsFor new (e ∷ h)
  pub position : e.position ≡ length h
  pub read : command_at Two table 64 line ≡ Ok (e.seat, e.cmd)
  pub spelled : line ≡ command_line e.seat e.cmd

-- what a call of a line does to a database that holds h
abbrev pub Called : List Event → List ℕ → Database → Result (Unit {0}) CallError → Database → Type 0
Called h line old (Ok _) new = ((e : Event) × Made h line new e) × IsWritten new
Called h line old (Err Unwritten) new = ((e : Event) × Made h line new e) × IsUnwritten new
Called h line old (Err (Fault f)) new = (new ≡ old) × (command_at Two table 64 line ≡ Err f)
Called h line old (Err NoMemory) new = (new ≡ old) × WantsMemory (byte_words_at Two table 64 line)
Called h line old (Err Spent) new = (new ≡ old) × (length h ≡ 18446744073709551615) × ((x : ℕ × Cmd) × (command_at Two table 64 line ≡ Ok x))

-- why no command is read from a line
abbrev pub IsReadError : List ℕ → CallError → Type 0
IsReadError line (Fault f) = command_at Two table 64 line ≡ Err f
IsReadError line NoMemory = WantsMemory (byte_words_at Two table 64 line)
IsReadError line Spent = ⊥
IsReadError line Unwritten = ⊥

-- it is no such error
abbrev pub IsNoReadError : CallError → Type 0
IsNoReadError (Fault f) = ⊥
IsNoReadError NoMemory = ⊥
IsNoReadError Spent = Unit {0}
IsNoReadError Unwritten = Unit {0}

-- the database holds an event of a seat's command after h, and has none of its text
pub record HasStepped (h : List Event) (by : ℕ) (cmd : Cmd) (new : Database) : Type 0 where
  pub event : Event
  pub holds : StandsFor new (event ∷ h)
  pub position : event.position ≡ length h
  pub seat : event.seat ≡ by
  pub command : event.cmd ≡ cmd
  pub text : IsUnwritten new
