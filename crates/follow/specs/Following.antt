-- Which lines of an input a follower takes as messages, up to the first that it can't follow, with what a replica
-- begins, and the faults by number, name and line (this project).
use Rattle.std.specs.Prelude.{ℕ, ◌==◌, Bool, false, if◌then◌else◌, List, [], ◌∷◌, Option, Some, None, Result, Ok, Err, bytes_eq, codes, ◌≡◌, ◌&&◌, ◌++◌, decimal, ◌+◌, is_none}
use Rattle.json_lines.specs.Meaning.{number_of}
use Rattle.replica.specs.declared.fault.Fault.{Fault}
use Rattle.replica.specs.Starts.{Start as ReplicaStart}
use Rattle.json_lines.specs.Tests.{message_at}
use Rattle.json_lines.specs.declared.fault.MessageFault.TheVariants as message
use Rattle.spelled_words.specs.declared.fault.LineFault.TheVariants as line_faults
use Rattle.replica.specs.declared.fault.Fault.TheVariants as replica_faults
use Rattle.spans.specs.Consumer as consumer
use Rattle.follow.specs.Prelude.{joined, LineFault, words_at, IsSeedFault, MayBegin, MessageFault, Span, initial_start, seeded_start, ApplyFault, Format, Message, apply_fault, lines_of, text_at, FollowFault, FollowError, FollowOptions}
use Rattle.follow.specs.declared.options.Start.{Start}
use Rattle.follow.specs.declared.options.Start.TheVariants as starts
use Rattle.follow.specs.declared.fault.FollowFault.TheVariants as faults
use Rattle.follow.specs.declared.fault.FollowError.TheVariants as errors

-- a line that begins with `{` is to be a message's
abbrev pub begins_message : List ℕ → Bool
begins_message [] = false
begins_message (byte ∷ bytes) = byte == 123

-- the feed that words poll: the third is `poll`, and the fourth the feed's number
abbrev pub polled_among : List (List ℕ) → Option ℕ
polled_among (position ∷ seat ∷ name ∷ feed ∷ words) = if bytes_eq name (codes "poll") then number_of feed else None
polled_among _ = None

abbrev pub polled_by : Result (List (List ℕ)) LineFault → Option ℕ
polled_by (Ok words) = polled_among words
polled_by (Err fault) = None

-- the feed that a line polls
abbrev pub polled_in : List ℕ → Option ℕ
polled_in text = polled_by (words_at text)

abbrev pub is_feed : ℕ → Option ℕ → Bool
is_feed feed None = false
is_feed feed (Some polled) = polled == feed

-- whether the messages behind a line are taken, where those before it are or not
abbrev pub is_taking_after : Option ℕ → Bool → List ℕ → Bool
is_taking_after None taking text = taking
is_taking_after (Some feed) taking text = if begins_message text then taking else is_feed feed (polled_in text)

-- with what the replica of a span begins
abbrev pub start_of : Span → Start → ReplicaStart
start_of span (starts.Cursor cursor) = seeded_start span cursor []
start_of span (starts.Initial cursor) = initial_start span cursor
start_of span (starts.Seed cursor rows) = seeded_start span cursor rows.items

-- whether a line is a message to take, where those that come now are or not
abbrev pub is_chosen : Bool → List ℕ → Bool
is_chosen taking text = begins_message text && taking

-- the faults of lines, of messages and of replicas, as those of a follower
abbrev pub error_of_line : LineFault → FollowError
error_of_line line_faults.LineTooLong = errors.Fault faults.LineTooLong
error_of_line _ = errors.Fault faults.NoNewline

abbrev pub error_of_message : MessageFault → FollowError
error_of_message message.NotJson = errors.Fault faults.NotJson
error_of_message message.Shape = errors.Fault faults.Shape
error_of_message message.Number = errors.Fault faults.Number
error_of_message message.Base64 = errors.Fault faults.Base64
error_of_message message.Length = errors.Fault faults.Length
error_of_message message.NoMemory = errors.NoMemory

abbrev pub error_of_replica : Fault → FollowError
error_of_replica replica_faults.NotAfter = errors.Fault faults.NotAfter
error_of_replica replica_faults.OutsideSpan = errors.Fault faults.OutsideSpan
error_of_replica replica_faults.ResolvedBack = errors.Fault faults.ResolvedBack
error_of_replica replica_faults.NoMemory = errors.NoMemory

-- why a replica can't begin so: the rows don't rise, or they do and one lies outside the span; or memory was wanting
abbrev pub IsUnbegun : Span → Start → FollowError → Type 0
IsUnbegun span start errors.NoMemory = Unit {0}
IsUnbegun span (starts.Seed cursor rows) (errors.Fault f) = (fault : Fault) × IsSeedFault span rows.items fault × (errors.Fault f ≡ error_of_replica fault)
IsUnbegun span start (errors.Fault f) = ⊥

-- a replica may begin so: rows to begin with rise, and lie in the span
abbrev pub MayStart : Span → Start → Type 0
MayStart span (starts.Seed cursor rows) = MayBegin span rows.items
MayStart span start = Unit {0}

-- the faults by number and name
abbrev pub code_of : FollowFault → ℕ
code_of faults.NotJson = 1
code_of faults.Shape = 2
code_of faults.Number = 3
code_of faults.Base64 = 4
code_of faults.Length = 5
code_of faults.NoNewline = 7
code_of faults.LineTooLong = 8
code_of faults.NotAfter = 21
code_of faults.OutsideSpan = 22
code_of faults.ResolvedBack = 23

abbrev pub name_of : FollowFault → List ℕ
name_of faults.NotJson = codes "notjson"
name_of faults.Shape = codes "shape"
name_of faults.Number = codes "number"
name_of faults.Base64 = codes "base64"
name_of faults.Length = codes "length"
name_of faults.NoNewline = codes "nonewline"
name_of faults.LineTooLong = codes "linetoolong"
name_of faults.NotAfter = codes "notafter"
name_of faults.OutsideSpan = codes "outsidespan"
name_of faults.ResolvedBack = codes "resolvedback"

-- what is wrong with a line, counted from 1
abbrev pub fault_line : ℕ → FollowFault → List ℕ
fault_line line fault = joined (codes "fault" ∷ decimal line ∷ decimal (code_of fault) ∷ name_of fault ∷ []) ++ 10 ∷ []

-- what a line that is to be a message says
abbrev pub chosen_at : Result Message MessageFault → Result (Option Message) FollowError
chosen_at (Ok m) = Ok (Some m)
chosen_at (Err fault) = Err (error_of_message fault)

-- what a line says once its end was taken off: its message, or none where it isn't one to take
abbrev pub said_by : Format → Bool → List ℕ → Result (List ℕ) LineFault → Result (Option Message) FollowError
said_by format taking line (Ok text) = if is_chosen taking text then chosen_at (message_at format line) else Ok None
said_by format taking line (Err fault) = Err (error_of_line fault)

-- the message of a line, where it is one to take, or why the line can't be read
abbrev pub line_at : Format → Bool → List ℕ → Result (Option Message) FollowError
line_at format taking line = said_by format taking line (text_at format line)

-- whether messages are taken behind the line, where those before it are or not
abbrev pub taking_behind : Option ℕ → Bool → Result (List ℕ) LineFault → Bool
taking_behind feed taking (Ok text) = is_taking_after feed taking text
taking_behind feed taking (Err fault) = taking

-- why a replica refuses a message, as a follower's fault
abbrev pub error_of_test : ApplyFault → FollowError
error_of_test consumer.NotAfter = errors.Fault faults.NotAfter
error_of_test consumer.OutsideSpan = errors.Fault faults.OutsideSpan
error_of_test consumer.ResolvedBack = errors.Fault faults.ResolvedBack

-- a line that can't be followed, counted from 1, and why
pub record Stop : Type 0 where
  pub line : ℕ
  pub error : FollowError

-- the messages that are taken, and where that ends early
pub record Followed : Type 0 where
  pub messages : List Message
  pub stop : Option Stop

abbrev pub stopped_at : ℕ → FollowError → Followed
stopped_at line error = record { messages = []; stop = Some (record { line = line; error = error }) }

-- all of an input was followed, and these were its messages
abbrev pub followed_through : List Message → Followed
followed_through ms = record { messages = ms; stop = None }

-- a message ahead of those of the lines below it, unless the replica refuses it
abbrev pub onto_followed : ℕ → Option ApplyFault → Message → Followed → Followed
onto_followed number None m below = record { messages = m ∷ below.messages; stop = below.stop }
onto_followed number (Some test) m below = stopped_at number (error_of_test test)

-- what a line adds: nothing, its message, or the end; `below` are the messages of the lines below it, after those that were taken
abbrev pub followed_step : FollowOptions → Result (Option Message) FollowError → List Message → ℕ → (List Message → Followed) → Followed
followed_step o (Err error) before number below = stopped_at number error
followed_step o (Ok None) before number below = below before
followed_step o (Ok (Some m)) before number below = onto_followed number (apply_fault o.span (start_of o.span o.start).start before m) m (below (before ++ m ∷ []))

-- the messages of lines of which the first has this number, behind the messages `before`; the first are taken or not
unfoldable pub followed_lines : FollowOptions → Bool → List Message → ℕ → List (List ℕ) → Followed
followed_lines o taking before number [] = followed_through []
followed_lines o taking before number (line ∷ lines) =
    followed_step o (line_at o.format taking line) before number
    (λ taken. followed_lines o (taking_behind o.feed taking (text_at o.format line)) taken (number + 1) lines)

-- the messages of a whole input: of all feeds, or of the one that is followed from its first poll on
unfoldable pub followed_at : FollowOptions → List ℕ → Followed
followed_at o text = followed_lines o (is_none o.feed) [] 1 (lines_of text)
