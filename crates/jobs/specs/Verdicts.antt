-- What the check of a text says, event by event and at its end, and how its state and its dump are told.
use Rattle.std.specs.Prelude.{◌≡◌, ◌<◌, ℕ, List, length, Result, Ok, ◌++◌, Bool, true, false, Err, decimal, codes, reverse, [], ◌∷◌, None}
use Rattle.trace_check.specs.declared.checker.Checker.{Checker}
use Rattle.spans.specs.declared.report.Report.{Report}
use Rattle.spans.specs.Report.{IsReport, limit_in, limit_of}
use Rattle.report_lines.specs.Lines.{report_text}
use Rattle.spans.specs.declared.calls.commands.Cmd.TheVariants.{Close, Collect}
use Rattle.plain_database.specs.declared.dump.Dump.{Dump}
use Rattle.jobs.specs.Prelude.{mark_of, Event, Fault, IsFirstWrong, StandsFor, format_of, transcript_at, IsTrace, fault_line, effects_of, dump_commands, lines_of, row_commands, End}
use Rattle.jobs.specs.declared.verdicts.Judged.{Judged}
use Rattle.jobs.specs.declared.state.Detail.{Detail}
use Rattle.jobs.specs.declared.verdicts.Judged.TheVariants as judged
use Rattle.jobs.specs.declared.ending.End.TheVariants as ends
use Rattle.jobs.specs.declared.state.Detail.TheVariants as details

-- the transcript could be read, and the checker has taken all of its events, which a number counts
pub record HasTakenAll (read : Result (List Event) Fault) (checker : Checker) : Type 0 where
  pub events : List Event
  pub is : read ≡ Ok events
  pub stands : StandsFor checker events
  pub few : length events < 18446744073709551615

-- what is said of a transcript that could be read: that the checker has taken all of its events, so many, or where they first go wrong
abbrev pub IsJudged : Result (List Event) Fault → Checker → Judged → Type 0
IsJudged read checker (judged.Right count) = (all : HasTakenAll read checker) × (count ≡ length all.events)
IsJudged read checker (judged.Wrong position) = (events : List Event) × (read ≡ Ok events) × IsFirstWrong events position

-- the checker has taken all events of a text
abbrev pub HasTakenText : List ℕ → Checker → Type 0
HasTakenText text checker = HasTakenAll (transcript_at (format_of text) text) checker

-- how the check of the text ends, and what it writes. The text is read in the format that it is in: `yes` where the text is that of a trace, of so many events, `no` with the position of
-- the first wrong event where it is that of other events, and else its first fault. It ends in no other way by itself
abbrev pub IsVerdict : List ℕ → End → List ℕ → Type 0
IsVerdict text (ends.Right count) out = (events : List Event) × (transcript_at (format_of text) text ≡ Ok events) × IsTrace events × (count ≡ length events) × (out ≡ codes "yes\n")
IsVerdict text (ends.No position) out = (events : List Event) × (transcript_at (format_of text) text ≡ Ok events) × IsFirstWrong events position × (out ≡ codes "no " ++ (decimal position ++ codes "\n"))
IsVerdict text (ends.Faulty line fault) out = (transcript_at (format_of text) text ≡ Err (record { line = line; fault = fault })) × (out ≡ fault_line line fault)
IsVerdict text _ out = ⊥

-- the end of a check that found all right
abbrev pub is_right : End → Bool
is_right (ends.Right count) = true
is_right _ = false

-- whether the two counts are told that an engine which forgets can't tell
abbrev pub is_whole : Detail → Bool
is_whole details.Whole = true
is_whole details.Live = false

-- the text of the report after the events, whose limit is the definitions'
abbrev pub IsStateOf : Detail → List Event → List ℕ → Type 0
IsStateOf detail events out =
    (r : Report) × IsReport (is_whole detail) (effects_of (reverse events)) r × (limit_in r ≡ limit_of (effects_of (reverse events))) × (out ≡ report_text r)

-- how the state of a text's events is told: the report where they are a trace, and else what a check says
abbrev pub IsState : Detail → List ℕ → End → List ℕ → Type 0
IsState detail text ends.Done out = (events : List Event) × (transcript_at (format_of text) text ≡ Ok events) × IsTrace events × IsStateOf detail events out
IsState detail text (ends.Right count) out = ⊥
IsState detail text end out = IsVerdict text end out

-- the script of what a dump writes
abbrev pub dump_text : Dump → List ℕ
dump_text d = lines_of (row_commands None d.rows.items ++ Close d.to ∷ Collect d.horizon ∷ [])

-- how the dump of a text's database is written, which closes at or above a timestamp; of no trace, what a check says
abbrev pub IsDumped : ℕ → List ℕ → End → List ℕ → Type 0
IsDumped at text ends.Done out = (events : List Event) × (transcript_at (format_of text) text ≡ Ok events) × IsTrace events
    × (out ≡ lines_of (dump_commands (effects_of (reverse events)) (mark_of (effects_of (reverse events)) at)))
IsDumped at text (ends.Right count) out = ⊥
IsDumped at text end out = IsVerdict text end out
