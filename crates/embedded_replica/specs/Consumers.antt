-- What a consumer that is called by text holds, with which rows it begins, and what a call does (this project's own).
use Rattle.std.specs.Prelude.{ℕ, List, [], Bool, true, false, ◌≡◌, ◌≢◌, ◌⊎◌, ◌<◌, ◌≤◌, nat_le, length, flat_map, if◌then◌else◌, Option, Some, None, option_and_then, Ok, Err, ◌∷◌, ◌||◌, nat_lt, Result}
use Rattle.spans.specs.declared.calls.commands.Cmd.{Cmd}
use Rattle.replica.specs.declared.fault.Fault.{Fault}
use Rattle.timestamps.specs.declared.ts.TheConstants.{MAX}
use Rattle.replica.specs.declared.replica.Replica.{Replica}
use Rattle.spans.specs.declared.span.Span.{Span}
use Rattle.replica.specs.Starts.{Start, initial_start, seeded_start, IsSeedFault, MayBegin, Pairs}
use Rattle.text_format.specs.declared.Format.TheVariants.{Two}
use Rattle.word_lines.specs.Events.{row_line}
use Rattle.word_lines.specs.Table.{table}
use Rattle.timestamps.specs.declared.key.TheConstants.{MAX_KEY_BYTES}
use Rattle.timestamps.specs.declared.key.KeyError.{KeyError}
use Rattle.timestamps.specs.declared.key.KeyError.TheVariants.{KeyLength, NoMemory}
use Rattle.spans.specs.declared.calls.commands.Cmd.TheVariants.{Open, OpenInitial, OpenEvery, OpenInitialEvery}
use Rattle.spans.specs.declared.calls.messages.Message.{Message}
use Rattle.json_lines.specs.declared.fault.MessageFault.{MessageFault}
use Rattle.json_lines.specs.Tests.{message_at, MayWantMemory}
use Rattle.json_lines.specs.Messages.{message_line, IsMessage, Copied}
use Rattle.replica.specs.Replicas.{AddsValue, ready_in, Follows, IsFaultAt, Takes, test_of, view_in}
use Rattle.replica.specs.Rows.{AreRowsOf}
use Rattle.spelled_words.specs.declared.fault.LineFault.{LineFault}
use Rattle.word_lines.specs.Reading.{◌>>=◌, WantsMemory, byte_words_at, command_at}
use Rattle.script.specs.EventLines.{lines_of, row_line_at}
use Rattle.json_lines.specs.declared.fault.MessageFault.TheVariants as lines
use Rattle.replica.specs.declared.fault.Fault.TheVariants as faults
use Rattle.embedded_replica.specs.declared.consumer.Consumer.{Consumer}
use Rattle.embedded_replica.specs.declared.consumer.Opening.{Opening}
use Rattle.embedded_replica.specs.declared.consumer.BeginError.{BeginError}
use Rattle.embedded_replica.specs.declared.consumer.TakeError.{TakeError}
use Rattle.embedded_replica.specs.declared.consumer.SeedingError.{SeedingError}
use Rattle.embedded_replica.specs.declared.consumer.BeginError.TheVariants as errors
use Rattle.embedded_replica.specs.declared.consumer.TakeError.TheVariants as takes
use Rattle.embedded_replica.specs.declared.consumer.SeedingError.TheVariants as seeding

-- the replica of a consumer
abbrev pub replica_of : Consumer → Replica
replica_of c = c.replica

abbrev pub opening : Span → ℕ → Bool → Opening
opening span cursor initial = record { span = span; cursor = cursor; initial = initial }

-- what a command opens, if it opens a feed
abbrev pub opening_of : Cmd → Option Opening
opening_of (Open span cursor) = Some (opening span cursor false)
opening_of (OpenInitial span cursor) = Some (opening span cursor true)
opening_of (OpenEvery span cursor gap) = Some (opening span cursor false)
opening_of (OpenInitialEvery span cursor gap) = Some (opening span cursor true)
opening_of cmd = None

-- with what a replica of the feed begins: none above the greatest timestamp
abbrev pub start_at : Opening → Option Start
start_at o = if nat_le o.cursor MAX then Some (if o.initial then initial_start o.span o.cursor else seeded_start o.span o.cursor []) else None

abbrev pub start_of : Cmd → Option Start
start_of cmd = option_and_then start_at (opening_of cmd)

-- the command opens a feed
abbrev pub OpensFeed : Cmd → Type 0
OpensFeed cmd = (o : Opening) × (opening_of cmd ≡ Some o)

-- the replica begins as the one of the feed that the command opens, or there is none
abbrev pub BeginsBy : Cmd → Option Replica → Type 0
BeginsBy cmd None = start_of cmd ≡ None
BeginsBy cmd (Some r) = (start : Start) × (start_of cmd ≡ Some start) × Follows r start []

-- the replica begins as the one of the feed that the line's command opens
pub record Begins (line : List ℕ) (new : Replica) : Type 0 where
  pub seat : ℕ
  pub command : Cmd
  pub read : command_at Two table 64 line ≡ Ok (seat, command)
  pub begins : BeginsBy command (Some new)

-- why none begins by the command
abbrev pub IsUnopenedBy : Cmd → BeginError → Type 0
IsUnopenedBy command (errors.Fault f) = ⊥
IsUnopenedBy command errors.NoFeed = BeginsBy command None
IsUnopenedBy command errors.NoMemory = OpensFeed command

-- the line's command opens a feed
abbrev pub LineOpensFeed : List ℕ → Type 0
LineOpensFeed line = (seat : ℕ) × (command : Cmd) × (command_at Two table 64 line ≡ Ok (seat, command)) × OpensFeed command

-- why none begins; only a line that may want memory to be read, or opens a feed, may want it
abbrev pub IsUnopened : List ℕ → BeginError → Type 0
IsUnopened line (errors.Fault f) = command_at Two table 64 line ≡ Err f
IsUnopened line errors.NoFeed = (seat : ℕ) × (command : Cmd) × (command_at Two table 64 line ≡ Ok (seat, command)) × BeginsBy command None
IsUnopened line errors.NoMemory = WantsMemory (byte_words_at Two table 64 line) ⊎ LineOpensFeed line

-- the line is that of the message
pub record IsLineOf (line : List ℕ) (m : Message) : Type 0 where
  pub lawful : IsMessage Two m
  pub is : line ≡ message_line m

-- the line's message was taken
pub record HasTaken (line : List ℕ) (old new : Replica) : Type 0 where
  pub message : Message
  pub line_of : IsLineOf line message
  pub right : IsFaultAt old message None
  pub taken : Takes old new message

-- the line's message is refused
pub record HasRefused (line : List ℕ) (old : Replica) (fault : Fault) : Type 0 where
  pub message : Message
  pub line_of : IsLineOf line message
  pub test : IsFaultAt old message (test_of fault)
  pub memory : fault ≡ faults.NoMemory → AddsValue message

-- the line is no message's, by the first test that it doesn't pass, or it is out of memory at a line that may want it
abbrev pub IsNoMessage : List ℕ → MessageFault → Type 0
IsNoMessage line fault = (fault ≢ lines.NoMemory → message_at Two line ≡ Err fault) × (fault ≡ lines.NoMemory → MayWantMemory line)

-- the timestamp at which the rows are the map, where the line's message shows it
pub record IsReady (line : List ℕ) (r : Replica) (at : Option ℕ) : Type 0 where
  pub message : Message
  pub line_of : IsLineOf line message
  pub ready : at ≡ ready_in r message

-- why a line isn't taken
abbrev pub IsRefused : List ℕ → Replica → TakeError → Type 0
IsRefused line old (takes.Line fault) = IsNoMessage line fault
IsRefused line old (takes.Message fault) = HasRefused line old fault

-- the bytes are a key: 1 to 256 of them
abbrev pub AreKey : List ℕ → Type 0
AreKey bytes = (1 ≤ length bytes) × (length bytes ≤ MAX_KEY_BYTES)

-- the bytes are too few or too many for a key, or it is out of memory at a key of more than 24
abbrev pub IsNoKey : List ℕ → KeyError → Type 0
IsNoKey bytes KeyLength = (length bytes ≡ 0) ⊎ (MAX_KEY_BYTES < length bytes)
IsNoKey bytes NoMemory = (24 < length bytes) × AreKey bytes

-- the replica's value at the key is shown, as far as there is room; or nothing is, because these bytes are a key without one
abbrev pub Shows : Replica → List ℕ → (before after : List ℕ) → Option ℕ → Type 0
Shows r key before after None = AreKey key × (view_in r key ≡ None) × (after ≡ before)
Shows r key before after (Some n) = (value : List ℕ) × (view_in r key ≡ Some value) × Copied value before after n

-- the lines of all rows are shown, as far as there is room, keys rising
pub record ShowsRows (r : Replica) (before after : List ℕ) (n : ℕ) : Type 0 where
  pub rows : List (List ℕ × List ℕ)
  pub all : AreRowsOf (view_in r) rows
  pub shown : Copied (flat_map row_line rows) before after n

-- the rows that lines tell, each as a scan's answer has it, or the first fault
unfoldable pub pairs_of_lines : List (List ℕ) → Result Pairs LineFault
pairs_of_lines [] = Ok []
pairs_of_lines (line ∷ lines) = do
  pair ← row_line_at Two line
  others ← pairs_of_lines lines
  Ok (pair ∷ others)

-- the rows of a text
abbrev pub pairs_at : List ℕ → Result Pairs LineFault
pairs_at text = pairs_of_lines (lines_of text)

-- of which span, and from which timestamp on, what is opened is a feed that isn't initial: none above the greatest timestamp
abbrev pub seeded_at : Opening → Option (Span × ℕ)
seeded_at o = if o.initial || nat_lt MAX o.cursor then None else Some (o.span, o.cursor)

-- the same of a command
abbrev pub seeded_of : Cmd → Option (Span × ℕ)
seeded_of cmd = option_and_then seeded_at (opening_of cmd)

-- the replica begins with the rows of the text, as one of the feed that the command opens
pub record SeededBy (command : Cmd) (rows : List ℕ) (new : Replica) : Type 0 where
  pub span : Span
  pub cursor : ℕ
  pub pairs : Pairs
  pub opens : seeded_of command ≡ Some (span, cursor)
  pub told : pairs_at rows ≡ Ok pairs
  pub may : MayBegin span pairs
  pub begins : Follows new (seeded_start span cursor pairs) []

-- the same of the line's command
pub record BeginsWith (line rows : List ℕ) (new : Replica) : Type 0 where
  pub seat : ℕ
  pub command : Cmd
  pub read : command_at Two table 64 line ≡ Ok (seat, command)
  pub begins : SeededBy command rows new

-- the command opens a feed that isn't initial, and the rows of the text are at fault
abbrev pub AreUnfit : Cmd → List ℕ → Fault → Type 0
AreUnfit command rows fault =
    (span : Span) × (cursor : ℕ) × (pairs : Pairs) × (seeded_of command ≡ Some (span, cursor)) × (pairs_at rows ≡ Ok pairs) × IsSeedFault span pairs fault

-- why none begins by the command and the rows, by the first test that isn't passed. Memory may be wanting wherever it opens a feed
abbrev pub IsUnseededBy : Cmd → List ℕ → SeedingError → Type 0
IsUnseededBy command rows (seeding.Fault f) = ⊥
IsUnseededBy command rows seeding.NoFeed = seeded_of command ≡ None
IsUnseededBy command rows (seeding.Rows f) = (opened : Span × ℕ) × (seeded_of command ≡ Some opened) × (pairs_at rows ≡ Err f)
IsUnseededBy command rows seeding.NotAfter = AreUnfit command rows faults.NotAfter
IsUnseededBy command rows seeding.OutsideSpan = AreUnfit command rows faults.OutsideSpan
IsUnseededBy command rows seeding.NoMemory = (opened : Span × ℕ) × (seeded_of command ≡ Some opened)

-- the command of the line was read
pub record IsUnseededAt (line rows : List ℕ) (error : SeedingError) : Type 0 where
  pub seat : ℕ
  pub command : Cmd
  pub read : command_at Two table 64 line ≡ Ok (seat, command)
  pub why : IsUnseededBy command rows error

-- why none begins by the line and the rows; only a line that may want memory to be read, or opens a feed, may want it
abbrev pub IsUnseeded : (line rows : List ℕ) → SeedingError → Type 0
IsUnseeded line rows (seeding.Fault f) = command_at Two table 64 line ≡ Err f
IsUnseeded line rows seeding.NoMemory = WantsMemory (byte_words_at Two table 64 line) ⊎ IsUnseededAt line rows seeding.NoMemory
IsUnseeded line rows error = IsUnseededAt line rows error
