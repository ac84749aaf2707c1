-- The commands of a whole script, up to its first faulty line.
use Rattle.std.specs.Prelude.{◌≡◌, ◌≢◌, ◌⊎◌, ℕ, ◌+◌, ◌<◌, length, List, [], ◌∷◌, ◌++◌, Option, Some, None, Result, Ok, Err}
use Rattle.script.specs.Prelude.{Format, IsCommand, LineFault, WantsMemory, byte_words_at, command_at, flat_map, table, TranscriptError, command_line}
use Rattle.spans.specs.declared.calls.commands.Cmd.{Cmd}
use Rattle.script.specs.declared.fault.TranscriptError.TheVariants as errors
use Rattle.script.specs.EventLines.{lines_of}
use Rattle.script.specs.Transcripts.{Fault}

-- sessions, each with a command
abbrev pub Calls : Type 0
Calls = List (ℕ × Cmd)

-- the sessions and the commands of an input's lines up to the first faulty one, and that one's number and fault
pub record Script : Type 0 where
  pub calls : List (ℕ × Cmd)
  pub fault : Option Fault

-- a line's call ahead of those of the lines below it; a faulty line hides what stands below it
abbrev pub onto_script : ℕ → Result (ℕ × Cmd) LineFault → Script → Script
onto_script number (Ok call) below = record { calls = call ∷ below.calls; fault = below.fault }
onto_script number (Err f) below = record { calls = []; fault = Some (record { line = number; fault = f }) }

-- the script of lines for so many seats, where the first line has this number
unfoldable pub script_of_lines : Format → ℕ → ℕ → List (List ℕ) → Script
script_of_lines format seats number [] = record { calls = []; fault = None }
script_of_lines format seats number (line ∷ lines) = onto_script number (command_at format table seats line) (script_of_lines format seats (number + 1) lines)

-- the script of a text for so many seats, its lines counted from 1
unfoldable pub script_at : Format → ℕ → List ℕ → Script
script_at format seats text = script_of_lines format seats 1 (lines_of text)

-- a script of these calls without a fault
abbrev pub faultless : List (ℕ × Cmd) → Script
faultless calls = record { calls = calls; fault = None }

-- calls, and below them those of a script, with its fault
abbrev pub above : List (ℕ × Cmd) → Script → Script
above calls below = record { calls = calls ++ below.calls; fault = below.fault }

-- a call that has a line: its seat is one of so many
abbrev pub IsCall : Format → ℕ → ℕ × Cmd → Type 0
IsCall format seats call = (call.0 < seats) × IsCommand format call.1

-- the line of a call
abbrev pub call_line : ℕ × Cmd → List ℕ
call_line call = command_line call.0 call.1

-- the lines of calls, one after the other
abbrev pub script_text : List (ℕ × Cmd) → List ℕ
script_text calls = flat_map call_line calls

-- what a function returned, seen by view, is a script without a fault, or the script's fault, unless memory ran out
abbrev pub TellsScript : {X : Type 0} → (X → List (ℕ × Cmd)) → Result X TranscriptError → Script → Type 0
TellsScript view (Ok calls) script = script ≡ faultless (view calls)
TellsScript view (Err errors.NoMemory) script = Unit {0}
TellsScript view (Err (errors.Fault line fault)) script = script.fault ≡ Some (record { line = line; fault = fault })

-- the text has a call to keep, or its first line has a long key, value or bound
abbrev pub ScriptWants : Format → ℕ → List ℕ → Type 0
ScriptWants format seats text =
    ((script_at format seats text).calls ≢ []) ⊎ ((line : List ℕ) × (rest : List (List ℕ)) × (lines_of text ≡ line ∷ rest) × WantsMemory (byte_words_at format table seats line))

-- the lines of calls are read as these calls, and what stands below them as its own lines say
abbrev pub ReadsOn : Format → ℕ → Calls → List ℕ → Type 0
ReadsOn format seats calls rest = script_at format seats (script_text calls ++ rest) ≡ above calls (script_of_lines format seats (1 + length calls) (lines_of rest))
