-- Reading transcripts from the first line to the last: the events, or the first fault with the number of its line.
use Rattle.word_lines.specs.Reading.{◌>>=◌}
use Rattle.std.specs.Prelude.{◌≡◌, ◌≢◌, ◌⊎◌, Bool, true, ℕ, zero, suc, ◌+◌, ◌==◌, if◌then◌else◌, List, [], ◌∷◌, ◌++◌, length, take, drop, bytes_eq, Option, Some, None, Result, Ok, Err}
use Rattle.script.specs.Prelude.{Event, Follow, Format, LineFault, ReadError, Reply, WordCount, flat_map, header, header_lines, list_any, TranscriptError, Shape, event_text}
use Rattle.spans.specs.declared.calls.replies.Reply.TheVariants as reply
use Rattle.spelled_words.specs.declared.fault.ReadError.TheVariants as read_error
use Rattle.script.specs.declared.fault.TranscriptError.TheVariants as errors
use Rattle.script.specs.declared.reply_reading.Shape.TheVariants as shape
use Rattle.script.specs.EventLines.{Place, lines_of, heading_at, row_line_at, message_line_at, wants_at}

-- the texts of events, one after the other
abbrev pub events_text : List Event → List ℕ
events_text events = flat_map event_text events

-- a transcript of a format: its header, and the texts of events
abbrev pub transcript_text : Format → List Event → List ℕ
transcript_text format events = header format ++ events_text events

-- a fault, and the number of its line
pub record Fault : Type 0 where
  pub line : ℕ
  pub fault : LineFault

-- what a function returned, seen by view, is what reading gives, unless memory ran out; where it may, `wants_at` says
abbrev pub Fails : {Y : Type 0} → TranscriptError → Result Y Fault → Type 0
Fails errors.NoMemory read = Unit {0}
Fails (errors.Fault line fault) read = read ≡ Err (record { line = line; fault = fault })

abbrev pub Tells : {X Y : Type 0} → (X → Y) → Result X TranscriptError → Result Y Fault → Type 0
Tells view (Ok x) read = read ≡ Ok (view x)
Tells view (Err e) read = Fails e read

-- the same of a function that takes lines off the front, with the place that it leaves
abbrev pub TakesLines : {X Y : Type 0} → (X → Y) → Result X TranscriptError → Place → Result (Y × Place) Fault → Type 0
TakesLines view (Ok x) left read = read ≡ Ok (view x, left)
TakesLines view (Err e) left read = Fails e read

-- what a line says, a fault with the line's number
abbrev pub at_line : {A : Type 0} → ℕ → Result A LineFault → Result A Fault
at_line number (Ok x) = Ok x
at_line number (Err f) = Err (record { line = number; fault = f })

abbrev pub error_at_line : ℕ → ReadError → TranscriptError
error_at_line number (read_error.Fault f) = errors.Fault number f
error_at_line number read_error.NoMemory = errors.NoMemory

-- what the first of the lines says; where there is none, a line is missing
abbrev pub first_of : {A : Type 0} → (List ℕ → Result A LineFault) → ℕ → List (List ℕ) → Result (A × Place) Fault
first_of read number [] = Err (record { line = number; fault = Follow })
first_of read number (line ∷ lines) = do
  x ← at_line number (read line)
  Ok (x, record { number = number + 1; lines = lines })

abbrev pub next_at : {A : Type 0} → (List ℕ → Result A LineFault) → Place → Result (A × Place) Fault
next_at read p = first_of read p.number p.lines

-- what so many lines say
unfoldable pub many_at : {A : Type 0} → (List ℕ → Result A LineFault) → ℕ → Place → Result (List A × Place) Fault
many_at read zero p = Ok ([], p)
many_at read (suc n) p = do
  first ← next_at read p
  others ← many_at read n first.1
  Ok (first.0 ∷ others.0, others.1)

-- the reply with the lines that follow
unfoldable pub following_at : Format → Shape → Place → Result (Reply × Place) Fault
following_at format (shape.Alone r) p = Ok (r, p)
following_at format (shape.Rows n) p = do
  rows ← many_at (row_line_at format) n p
  Ok (reply.Rows rows.0, rows.1)
following_at format (shape.Messages n) p = do
  messages ← many_at (message_line_at format) n p
  Ok (reply.Messages messages.0, messages.1)

unfoldable pub event_at : Format → Place → Result (Event × Place) Fault
event_at format p = do
  h ← next_at (heading_at format) p
  r ← following_at format h.0.shape h.1
  Ok (record { position = h.0.position; seat = h.0.seat; cmd = h.0.cmd; reply = r.0 }, r.1)

-- the events of all lines, of which there are at most so many
unfoldable pub events_at : Format → ℕ → Place → Result (List Event) Fault
events_at format zero p = Ok []
events_at format (suc n) p = if length p.lines == 0 then Ok [] else (do
  first ← event_at format p
  others ← events_at format n first.1
  Ok (first.0 ∷ others))

-- what stands behind the header: an event has a line at least, so there are no more events than lines
unfoldable pub body_at : Format → List ℕ → Result (List Event) Fault
body_at format body = events_at format (length (lines_of body)) (record { number = 1 + header_lines format; lines = lines_of body })

-- a text that doesn't begin with the format's header is faulty in its first line
unfoldable pub transcript_at : Format → List ℕ → Result (List Event) Fault
transcript_at format text =
    if bytes_eq (take (length (header format)) text) (header format) then body_at format (drop (length (header format)) text)
    else Err (record { line = 1; fault = WordCount })

-- ---- one event at a time

-- what is left of a transcript: its events up to the first faulty one, and that one's fault
pub record Transcript : Type 0 where
  pub events : List Event
  pub fault : Option Fault
  -- of each event, and of the faulty one behind them, whether it may want memory to be read
  pub wants : List Bool

-- nothing is left
abbrev pub nothing_left : Transcript
nothing_left = record { events = []; fault = None; wants = [] }

-- an event, and what is left behind it; a fault hides what stands below it
abbrev pub onto_left : Bool → Result (Event × Place) Fault → (Place → Transcript) → Transcript
onto_left wants (Ok first) below = let others = below first.1 in record { events = first.0 ∷ others.events; fault = others.fault; wants = wants ∷ others.wants }
onto_left wants (Err f) below = record { events = []; fault = Some f; wants = wants ∷ [] }

-- what is left at a place, where there are at most so many events
unfoldable pub left_within : Format → ℕ → Place → Transcript
left_within format zero p = nothing_left
left_within format (suc n) p = if length p.lines == 0 then nothing_left else onto_left (wants_at format p) (event_at format p) (λ after. left_within format n after)

-- what is left at a place
abbrev pub left_at : Format → Place → Transcript
left_at format p = left_within format (length p.lines) p

-- the text begins with the format's header
abbrev pub HasHeader : Format → List ℕ → Type 0
HasHeader format text = take (length (header format)) text ≡ header format

-- what is left of a text with its header, before an event is taken
abbrev pub left_of : Format → List ℕ → Transcript
left_of format text = left_at format (record { number = 1 + header_lines format; lines = lines_of (drop (length (header format)) text) })

-- what all that is left says: its events, or its fault
abbrev pub outcome_of : List Event → Option Fault → Result (List Event) Fault
outcome_of events None = Ok events
outcome_of events (Some f) = Err f

abbrev pub outcome : Transcript → Result (List Event) Fault
outcome left = outcome_of left.events left.fault

-- what is left begins with its fault, unless memory ran out
abbrev pub IsFaulty : TranscriptError → Transcript → Type 0
IsFaulty errors.NoMemory left = Unit {0}
IsFaulty (errors.Fault line fault) left = left ≡ record { events = []; fault = Some (record { line = line; fault = fault }); wants = left.wants }

-- the next event, or the faulty one in its place, may want memory to be read
abbrev pub WantsNext : Transcript → Type 0
WantsNext left = (others : List Bool) × (left.wants ≡ true ∷ others)

-- one of the events, or the faulty one behind them, may
abbrev pub WantsAny : Transcript → Type 0
WantsAny left = list_any (λ (w : Bool). w) left.wants ≡ true

-- the first of what was left was taken off, if there was any, or is faulty; memory ran out only where it may want some
abbrev pub TakesEvent : Option (Result Event TranscriptError) → Transcript → Transcript → Type 0
TakesEvent None left left' = (left ≡ nothing_left) × (left' ≡ left)
TakesEvent (Some (Ok e)) left left' = (w : Bool) × (left ≡ record { events = e ∷ left'.events; fault = left'.fault; wants = w ∷ left'.wants })
TakesEvent (Some (Err error)) left left' = IsFaulty error left × (error ≡ errors.NoMemory → WantsNext left)

-- the text has its header, and an event to keep, or what stands first behind the header may want memory to be read
abbrev pub TranscriptWants : Format → List ℕ → Type 0
TranscriptWants format text = HasHeader format text × (((left_of format text).events ≢ []) ⊎ WantsNext (left_of format text))
