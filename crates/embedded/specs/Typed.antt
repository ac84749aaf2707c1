-- Calls whose command is given in parts, answers in numbers and bytes, and calls whose answer is to find room: the
-- command is made of what a look at the history tells (this project's own).
use Rattle.std.specs.Prelude.{ℕ, List, [], ◌∷◌, ◌++◌, ◌≡◌, ◌⊎◌, if◌then◌else◌, length, is_some, max, min, Bool, true, false, Option, Some, None, Result, Ok, Err}
use Rattle.spans.specs.declared.calls.messages.Message.{Message}
use Rattle.spans.specs.declared.calls.replies.Refusal.{Refusal}
use Rattle.spans.specs.declared.calls.replies.Reply.{Reply}
use Rattle.spans.specs.declared.calls.commands.Cmd.TheVariants as command
use Rattle.spans.specs.declared.calls.messages.Message.TheVariants as message
use Rattle.spans.specs.declared.calls.replies.Refusal.TheVariants as refusal
use Rattle.spans.specs.declared.calls.replies.Reply.TheVariants as reply
use Rattle.embedded.specs.Prelude.{Cmd, Effect, Event, Span, flat_map, to_le_bytes, w32, w64, effects_of, poll_count, scan_end, successor, up_to, Database}
use Rattle.embedded.specs.Embedded.{HasStepped}
use Rattle.embedded.specs.declared.event_record.EventRecord.{EventRecord}
use Rattle.embedded.specs.declared.typed.Answer.{Answer}
use Rattle.embedded.specs.declared.typed.NoPosition.{NoPosition}
use Rattle.embedded.specs.declared.bounded.Bounded.{Bounded}
use Rattle.embedded.specs.declared.bounded.BoundedError.{BoundedError}
use Rattle.embedded.specs.declared.bounded.Bounded.TheVariants as bounded
use Rattle.embedded.specs.declared.bounded.BoundedError.TheVariants as unmade

-- what a call of a seat's command does to a database that holds h
abbrev pub MadeBy : List Event → ℕ → Cmd → Database → Result (Unit {0}) NoPosition → Database → Type 0
MadeBy h by cmd old (Ok _) new = HasStepped h by cmd new
MadeBy h by cmd old (Err _) new = (new ≡ old) × (length h ≡ 18446744073709551615)

-- an answer's kind, and what it counts
abbrev pub numbers : ℕ → ℕ → ℕ → Answer
numbers kind number other = record { kind = kind; number = number; other = other }

-- why a command was refused, from 32 on, with the timestamp that it names
abbrev pub refusal_numbers : Refusal → Answer
refusal_numbers (refusal.BelowClosed closed) = numbers 32 closed 0
refusal_numbers refusal.TsUsed = numbers 33 0 0
refusal_numbers refusal.TsRange = numbers 34 0 0
refusal_numbers (refusal.Blocked by) = numbers 35 by 0
refusal_numbers refusal.NoTxn = numbers 36 0 0
refusal_numbers refusal.NotOwner = numbers 37 0 0
refusal_numbers refusal.Ended = numbers 38 0 0
refusal_numbers refusal.TooLate = numbers 39 0 0
refusal_numbers (refusal.NotClosed closed) = numbers 40 closed 0
refusal_numbers (refusal.BelowHorizon horizon) = numbers 41 horizon 0
refusal_numbers refusal.NoProtection = numbers 42 0 0
refusal_numbers refusal.NoFeed = numbers 43 0 0
refusal_numbers refusal.FeedCancelled = numbers 44 0 0
refusal_numbers refusal.NoMemory = numbers 45 0 0
refusal_numbers refusal.GapRange = numbers 46 0 0

-- an answer in numbers
abbrev pub reply_numbers : Reply → Answer
reply_numbers reply.Started = numbers 1 0 0
reply_numbers (reply.Found None) = numbers 2 0 0
reply_numbers (reply.Found (Some value)) = numbers 3 (length value) 0
reply_numbers reply.Written = numbers 4 0 0
reply_numbers (reply.Committed keys) = numbers 5 keys 0
reply_numbers reply.Aborted = numbers 6 0 0
reply_numbers (reply.Closed at aborted) = numbers 7 at aborted
reply_numbers (reply.Messages messages) = numbers 8 (length messages) 0
reply_numbers (reply.Rows rows) = numbers 9 (length rows) 0
reply_numbers (reply.Protected id) = numbers 10 id 0
reply_numbers reply.Released = numbers 11 0 0
reply_numbers (reply.Collected horizon removed) = numbers 12 horizon removed
reply_numbers (reply.Opened feed) = numbers 13 feed 0
reply_numbers reply.Cancelled = numbers 14 0 0
reply_numbers (reply.Stats versions undecided feeds closed horizon) = numbers 15 versions undecided
reply_numbers (reply.Refused r) = refusal_numbers r

-- the numbers of an event's answer; all 0 where there is no event
abbrev pub answer_of : Option Event → Answer
answer_of None = numbers 0 0 0
answer_of (Some e) = reply_numbers e.reply

-- which command it is, from 1 on
abbrev pub command_number : Cmd → ℕ
command_number (command.Begin ts) = 1
command_number (command.Get ts key) = 2
command_number (command.Scan ts span) = 3
command_number (command.Put ts key value) = 4
command_number (command.Del ts key) = 5
command_number (command.Commit ts) = 6
command_number (command.Abort ts) = 7
command_number (command.Close to) = 8
command_number (command.CloseHard to) = 9
command_number (command.ReadAt t key) = 10
command_number (command.ScanAt t span) = 11
command_number (command.Protect t) = 12
command_number (command.Release id) = 13
command_number (command.Collect to) = 14
command_number (command.Open span cursor) = 15
command_number (command.OpenInitial span cursor) = 16
command_number (command.OpenEvery span cursor gap) = 17
command_number (command.OpenInitialEvery span cursor gap) = 18
command_number (command.Poll feed most) = 19
command_number (command.Cancel feed) = 20
command_number command.Stats = 21

-- the number that a command names: a timestamp, or a protection's or a feed's number; of an open its cursor
abbrev pub first_number : Cmd → ℕ
first_number (command.Begin ts) = ts
first_number (command.Get ts key) = ts
first_number (command.Scan ts span) = ts
first_number (command.Put ts key value) = ts
first_number (command.Del ts key) = ts
first_number (command.Commit ts) = ts
first_number (command.Abort ts) = ts
first_number (command.Close to) = to
first_number (command.CloseHard to) = to
first_number (command.ReadAt t key) = t
first_number (command.ScanAt t span) = t
first_number (command.Protect t) = t
first_number (command.Release id) = id
first_number (command.Collect to) = to
first_number (command.Open span cursor) = cursor
first_number (command.OpenInitial span cursor) = cursor
first_number (command.OpenEvery span cursor gap) = cursor
first_number (command.OpenInitialEvery span cursor gap) = cursor
first_number (command.Poll feed most) = feed
first_number (command.Cancel feed) = feed
first_number command.Stats = 0

-- an event in numbers; all 0 where there is none
abbrev pub record_of : Option Event → EventRecord
record_of None = record { position = 0; at = 0; number = 0; other = 0; seat = 0; command = 0; kind = 0 }
record_of (Some e) = record { position = e.position; at = first_number e.cmd; number = (reply_numbers e.reply).number; other = (reply_numbers e.reply).other; seat = e.seat; command = command_number e.cmd; kind = (reply_numbers e.reply).kind }

-- the head of a message: what it is, its timestamp, and the lengths of its key and value, each number's lowest byte first
abbrev pub head : (kind at key value : ℕ) → List ℕ
head kind at key value = kind ∷ to_le_bytes w64 at ++ to_le_bytes w32 key ++ to_le_bytes w32 value

-- a row in bytes: 1 with a value, 2 of a delete
abbrev pub row_bytes : (at : ℕ) (key : List ℕ) (after : Option (List ℕ)) → List ℕ
row_bytes at key (Some value) = head 1 at (length key) (length value) ++ key ++ value
row_bytes at key None = head 2 at (length key) 0 ++ key

-- a message in bytes: 0 a resolved timestamp, else its row
abbrev pub message_bytes : Message → List ℕ
message_bytes (message.Resolved t) = head 0 t 0 0
message_bytes (message.Row row) = row_bytes row.ts row.key row.after

-- a key with its value in bytes, as a row of a scan's timestamp
abbrev pub pair_bytes : (at : ℕ) → List ℕ × List ℕ → List ℕ
pair_bytes at pair = row_bytes at pair.0 (Some pair.1)

-- where a scan ended, in bytes: a message of kind 3 with the high bound of its span as its key, where there is one
abbrev pub end_bytes : (at : ℕ) → Option (List ℕ) → List ℕ
end_bytes at None = []
end_bytes at (Some high) = head 3 at (length high) 0 ++ high

-- the timestamp and the span of a scan
abbrev pub scan_of : Cmd → Option (ℕ × Span)
scan_of (command.Scan ts span) = Some (ts, span)
scan_of (command.ScanAt t span) = Some (t, span)
scan_of _ = None

-- the rows of a scan, and behind them its end
abbrev pub rows_bytes : Option (ℕ × Span) → List (List ℕ × List ℕ) → List ℕ
rows_bytes None rows = []
rows_bytes (Some scan) rows = flat_map (pair_bytes scan.0) rows ++ end_bytes scan.0 scan.1.hi

-- the bytes of an answer to a command: a value, messages one behind another, or rows; no byte of another
abbrev pub reply_bytes : Cmd → Reply → List ℕ
reply_bytes cmd (reply.Found (Some value)) = value
reply_bytes cmd (reply.Messages messages) = flat_map message_bytes messages
reply_bytes cmd (reply.Rows rows) = rows_bytes (scan_of cmd) rows
reply_bytes cmd _ = []

-- the bytes of an event's answer
abbrev pub bytes_of : Option Event → List ℕ
bytes_of None = []
bytes_of (Some e) = reply_bytes e.cmd e.reply

-- a reply has at least one message
abbrev pub AreMessages : Reply → Type 0
AreMessages r = (m : Message) × (ms : List Message) × (r ≡ reply.Messages (m ∷ ms))

-- a reply has a scan's rows
abbrev pub AreRowsOf : Cmd → Reply → Type 0
AreRowsOf cmd r = (rows : List (List ℕ × List ℕ)) × (r ≡ reply.Rows rows) × (is_some (scan_of cmd) ≡ true)

-- the bytes of an answer take memory: it has at least one message, or a scan's rows
abbrev pub IsBulk : Cmd → Reply → Type 0
IsBulk cmd r = AreMessages r ⊎ AreRowsOf cmd r

-- those of an event's
abbrev pub HasBulk : Option Event → Type 0
HasBulk last = (e : Event) × (last ≡ Some e) × IsBulk e.cmd e.reply

-- the command reads one key
abbrev pub is_read : Cmd → Bool
is_read (command.Get t x) = true
is_read (command.ReadAt t x) = true
is_read _ = false

-- a scan at t finds a row in the span: without room for one it ends there
abbrev pub has_row : List Effect → ℕ → Span → Bool
has_row p t span = is_some (scan_end p t span 0 0)

-- the span up to the key at which a scan at t ends, or just behind it where it is the first row's
abbrev pub with_row : List Effect → ℕ → Span → Option (List ℕ) → Span
with_row p t span None = span
with_row p t span (Some x) = if has_row p t (up_to (Some x) span) then up_to (Some x) span else up_to (Some (successor x)) span

-- the longest beginning of the span of which a scan at t finds room, but that of one row at least
abbrev pub span_within : List Event → ℕ → Span → (rows bytes : ℕ) → Span
span_within h t span rows bytes = with_row (effects_of h) t span (scan_end (effects_of h) t span rows bytes)

-- the command that is made after h: a scan of that, or a poll of so many messages as find room, but of one at least
abbrev pub command_within : List Event → Bounded → Cmd
command_within h (bounded.Scan ts span rows bytes) = command.Scan ts (span_within h ts span rows bytes)
command_within h (bounded.ScanAt t span rows bytes) = command.ScanAt t (span_within h t span rows bytes)
command_within h (bounded.Poll feed most bytes) = command.Poll feed (min (max (poll_count (effects_of h) feed most bytes) 1) most)

-- what is asked, without its bound
abbrev pub unbounded : Bounded → Cmd
unbounded (bounded.Scan ts span rows bytes) = command.Scan ts span
unbounded (bounded.ScanAt t span rows bytes) = command.ScanAt t span
unbounded (bounded.Poll feed most bytes) = command.Poll feed most

-- a reply is a refusal, or has a row or a message
abbrev pub HasSome : Reply → Type 0
HasSome (reply.Rows (row ∷ rows)) = Unit {0}
HasSome (reply.Messages (m ∷ ms)) = Unit {0}
HasSome (reply.Refused r) = Unit {0}
HasSome _ = ⊥

-- whoever goes on where the last event's answer ended gets on: it answers all that was asked, or a part that has some
abbrev pub GetsOn : Bounded → Option Event → Type 0
GetsOn asked None = ⊥
GetsOn asked (Some e) = (e.cmd ≡ unbounded asked) ⊎ HasSome e.reply

-- what a call of a seat's command does to a database that holds h. A position is asked for before memory
abbrev pub MadeWithin : List Event → ℕ → Bounded → Database → Result (Unit {0}) BoundedError → Database → Type 0
MadeWithin h by cmd old (Ok _) new = HasStepped h by (command_within h cmd) new
MadeWithin h by cmd old (Err unmade.NoMemory) new = (new ≡ old) × (length h ≡ 18446744073709551615 → ⊥)
MadeWithin h by cmd old (Err unmade.NoPosition) new = (new ≡ old) × (length h ≡ 18446744073709551615)
