-- The span that two words spell, and what a follower may begin with: the rows that the last scan of a transcript found.
use Rattle.std.specs.Prelude.{ℕ, List, [], ◌∷◌, Option, Result, Ok, ◌≡◌, ◌⊎◌, Some, None, Err}
use Rattle.std.specs.Option.{option_or}
use Rattle.word_lines.specs.Reading.{◌>>=◌}
use Rattle.text_format.specs.Limits.{format_of}
use Rattle.spans.specs.declared.calls.commands.Cmd.{Cmd}
use Rattle.spans.specs.declared.calls.replies.Reply.{Reply}
use Rattle.spans.specs.declared.calls.events.Event.{Event}
use Rattle.script.specs.declared.fault.TranscriptError.{TranscriptError}
use Rattle.script.specs.Transcripts.{transcript_at, Fault, HasHeader, Transcript, WantsAny, left_of, outcome}
use Rattle.spans.specs.declared.calls.commands.Cmd.TheVariants as cmd
use Rattle.spans.specs.declared.calls.replies.Reply.TheVariants as reply
use Rattle.script.specs.declared.fault.TranscriptError.TheVariants as read_errors
use Rattle.follow.specs.Prelude.{Format, LineFault, Span, bound_at}
use Rattle.follow.specs.declared.seed.Seed.{Seed}
use Rattle.follow.specs.declared.seed.SeedError.{SeedError}
use Rattle.follow.specs.declared.seed.SeedError.TheVariants as errors

-- the bound that a word spells in a format, or none where it is `-`
abbrev pub bound_in : Format → List ℕ → Result (Option (List ℕ)) LineFault
bound_in format word = do
  bound ← bound_at format (word ∷ [])
  Ok bound.0

-- the span whose bounds two words spell in a format, the lower one first
abbrev pub span_in : Format → List ℕ → List ℕ → Result Span LineFault
span_in format lo hi = do
  l ← bound_in format lo
  h ← bound_in format hi
  Ok (record { lo = l; hi = h })

-- the span of a scan, its timestamp, and the rows that it found
abbrev pub Found : Type 0
Found = Span × ℕ × List (List ℕ × List ℕ)

-- what a scan at a timestamp found, where a command is one that was answered with rows
abbrev pub found_by : Cmd → Reply → Option Found
found_by (cmd.ScanAt t span) (reply.Rows rows) = Some (span, t, rows)
found_by c r = None

abbrev pub scan_in : Event → Option Found
scan_in e = found_by e.cmd e.reply

-- what the last scan of the events found, or else what was found before them
abbrev pub last_scan : Option Found → List Event → Option Found
last_scan before [] = before
last_scan before (e ∷ events) = last_scan (option_or (scan_in e) before) events

-- the events were read, and this is what their last scan found
abbrev pub IsLastOf : Result (List Event) Fault → Option Found → Type 0
IsLastOf read found = (events : List Event) × (read ≡ Ok events) × (last_scan None events ≡ found)

-- the seed is what the last scan of the text's events found
abbrev pub IsSeedOf : List ℕ → Seed → Type 0
IsSeedOf text s = IsLastOf (transcript_at (format_of text) text) (Some (s.span, s.cursor, s.rows.items))

-- why a text has no seed: its first fault, or that none of its events is a scan at a timestamp that was answered with rows; or memory
-- was wanted, to read an event that may want it, or for a copy of the last scan's rows
abbrev pub IsUnseeded : List ℕ → SeedError → Type 0
IsUnseeded text (errors.Fault line fault) = transcript_at (format_of text) text ≡ Err (record { line = line; fault = fault })
IsUnseeded text errors.NoScan = IsLastOf (transcript_at (format_of text) text) None
IsUnseeded text errors.NoMemory =
    (HasHeader (format_of text) text × WantsAny (left_of (format_of text) text))
    ⊎ ((found : Found) × IsLastOf (transcript_at (format_of text) text) (Some found))

-- the same of what is left of a transcript
abbrev pub IsLastScan : Transcript → Found → Type 0
IsLastScan left found = IsLastOf (outcome left) (Some found)

abbrev pub IsUnscanned : Transcript → SeedError → Type 0
IsUnscanned left (errors.Fault line fault) = outcome left ≡ Err (record { line = line; fault = fault })
IsUnscanned left errors.NoScan = IsLastOf (outcome left) None
IsUnscanned left errors.NoMemory = WantsAny left

-- why a text that can't be read has no seed
abbrev pub refusal_of : TranscriptError → SeedError
refusal_of (read_errors.Fault line fault) = errors.Fault line fault
refusal_of read_errors.NoMemory = errors.NoMemory
