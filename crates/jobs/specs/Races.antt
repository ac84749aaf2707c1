-- What a race of a script's sessions answers.
use Rattle.std.specs.Prelude.{◌≡◌, ℕ, List, [], ◌++◌, Some, None}
use Rattle.jobs.specs.Prelude.{Config, Event, Format, fault_line, header, transcript_text, End}
use Rattle.spans.specs.declared.calls.commands.Cmd.{Cmd}
use Rattle.script.specs.Scripts.{script_at}
use Rattle.shared_db.specs.Seats.{IsReason}
use Rattle.races.specs.Racing.{IsRaceOf}
use Rattle.jobs.specs.declared.ending.End.TheVariants as ends
use Rattle.jobs.specs.declared.race.RaceOptions.{RaceOptions}

-- the database that a race is made on
abbrev pub config_of : RaceOptions → Config
config_of options = record { seats = options.sessions; ring = options.ring; first = 0 }

-- the script has no fault, and the output is the text of one right history of its calls
pub record IsRaced (format : Format) (sessions : ℕ) (text out : List ℕ) : Type 0 where
  pub calls : List (ℕ × Cmd)
  pub script : script_at format sessions text ≡ record { calls = calls; fault = None }
  pub events : List Event
  pub raced : IsRaceOf sessions calls events
  pub told : out ≡ transcript_text format events

-- how a race ends by itself, and what it writes: the history of all calls, or the script's first fault, behind the format's header. Nothing is written where
-- a database could not be opened, or a thread not started
abbrev pub IsRace : RaceOptions → List ℕ → End → List ℕ → Type 0
IsRace options text ends.Done out = IsRaced options.format options.sessions text out
IsRace options text (ends.Faulty line fault) out = ((script_at options.format options.sessions text).fault ≡ Some (record { line = line; fault = fault })) × (out ≡ header options.format ++ fault_line line fault)
IsRace options text (ends.Open reason) out = IsReason (config_of options) reason × (out ≡ [])
IsRace options text ends.Thread out = out ≡ []
IsRace options text _ out = ⊥
