-- A text cut into lines, the message of a line of JSON, reading the lines of an event, each alone, and which events may
-- want memory (this project).
use Rattle.std.specs.Prelude.{ℕ, ◌+◌, ◌≡◌, Bool, ◌==◌, if◌then◌else◌, List, [], ◌∷◌, nat_le, nat_lt, true, ◌&&◌, length, Option, Some, None, option_and_then, bytes_eq, drop, slice_index_or, codes, Result, Ok, Err, ok_or, false, ◌||◌, take, ◌++◌}
use Rattle.std.specs.List.{onto_first}
use Rattle.base64.specs.Engines.{standard}
use Rattle.base64.specs.GeneralPurpose.{decoded_of}
use Rattle.json_lines.specs.Meaning.{number_of}
use Rattle.json_lines.specs.declared.fault.MessageFault.{MessageFault}
use Rattle.word_lines.specs.Reading.{◌>>=◌}
use Rattle.spans.specs.declared.calls.messages.Message.TheVariants as message
use Rattle.spelled_words.specs.declared.fault.ReadError.TheVariants as errors
use Rattle.json_lines.specs.declared.fault.MessageFault.TheVariants as message_faults
use Rattle.script.specs.Prelude.{Format, Message, key_limit, list_all, message_line, slice_split, value_limit, Follow, LineFault, ReadError, WordCount, arguments_at, key_at, number_at, row_at, session_at, table, text_at, value_at, word_at, words_at, byte_words, is_long, list_any, Shape, Kind}
use Rattle.script.specs.declared.headings.Heading.{Heading}
use Rattle.script.specs.ReplyReading.{told_as, to_the_end, reply_at, replies, kind_of}
use Rattle.script.specs.declared.reply_reading.Shape.TheVariants as shape
use Rattle.script.specs.declared.reply_table.Kind.TheVariants as kind

abbrev pub is_newline : ℕ → Bool
is_newline b = b == 10

-- a line ends behind its newline; what stands behind the last one is a line too
unfoldable pub lines_of : List ℕ → List (List ℕ)
lines_of [] = []
lines_of (b ∷ text) = if is_newline b then (b ∷ []) ∷ lines_of text else onto_first b (lines_of text)

-- the number of the next line, from 1, and the lines that are still to come
pub record Place : Type 0 where
  pub number : ℕ
  pub lines : List (List ℕ)

-- the line was taken
abbrev pub IsPast : List ℕ → Place → Place → Type 0
IsPast line p p' = (p.lines ≡ line ∷ p'.lines) × (p'.number ≡ p.number + 1)

-- the row of a timestamp, a key and a value
abbrev row_of : ℕ → List ℕ → Option (List ℕ) → Message
row_of ts key after = message.Row (record { ts = ts; key = key; after = after })

-- the message that the pieces between the quotes would be of
abbrev pub between : List (List ℕ) → Option Message
between (_ ∷ _ ∷ _ ∷ ts ∷ _ ∷ []) = option_and_then (λ n. Some (message.Resolved n)) (number_of ts)
between (_ ∷ _ ∷ _ ∷ _ ∷ _ ∷ key ∷ _ ∷ _ ∷ _ ∷ ts ∷ _ ∷ []) =
    option_and_then (λ k. option_and_then (λ n. Some (row_of n k None)) (number_of ts)) (decoded_of standard key)
between (_ ∷ _ ∷ _ ∷ value ∷ _ ∷ _ ∷ _ ∷ key ∷ _ ∷ _ ∷ _ ∷ ts ∷ _ ∷ []) =
    option_and_then (λ v. option_and_then (λ k. option_and_then (λ n. Some (row_of n k (Some v))) (number_of ts)) (decoded_of standard key)) (decoded_of standard value)
between _ = None

abbrev are_bytes : List ℕ → Bool
are_bytes bytes = list_all (λ b. nat_lt b 256) bytes

abbrev is_timestamp : ℕ → Bool
is_timestamp ts = nat_le 1 ts && nat_le ts 9223372036854775807

abbrev is_key : Format → List ℕ → Bool
is_key format key = nat_le 1 (length key) && nat_le (length key) (key_limit format) && are_bytes key

abbrev is_after : Format → Option (List ℕ) → Bool
is_after format None = true
is_after format (Some value) = nat_le (length value) (value_limit format) && are_bytes value

-- its timestamp, key and value are in range
abbrev pub is_lawful : Format → Message → Bool
is_lawful format (message.Row row) = is_timestamp row.ts && is_key format row.key && is_after format row.after
is_lawful format (message.Resolved ts) = is_timestamp ts

-- the message that is made of what stands between the quotes, where it is lawful and the line is its own
unfoldable pub message_of : Format → List ℕ → Option Message
message_of format line = option_and_then (λ m. if is_lawful format m && bytes_eq (message_line m) line then Some m else None) (between (slice_split (λ b. b == 34) line))

-- the words behind so many arguments and `=>`
unfoldable pub behind_arrow : ℕ → List (List ℕ) → Result (List (List ℕ)) LineFault
behind_arrow arguments words = if bytes_eq (slice_index_or words arguments []) (codes "=>") then Ok (drop (arguments + 1) words) else Err WordCount

-- the position, the session, the command and the reply, from the words of a line
unfoldable pub heading_of : Format → List (List ℕ) → Result Heading LineFault
heading_of format words = do
  position ← number_at words
  session ← session_at 64 position.1
  row ← row_at table session.1
  answer ← behind_arrow row.0.arguments row.1
  c ← arguments_at format row.0.verb row.1
  shape ← reply_at format answer
  Ok (record { position = position.0; seat = session.0; cmd = c.0; shape = shape })

-- the first line of an event: the tests in the order in which they count
unfoldable pub heading_at : Format → List ℕ → Result Heading LineFault
heading_at format line = do
  text ← text_at format line
  words ← words_at text
  if nat_lt (length words) 3 then Err WordCount else heading_of format words

-- `row KEY VALUE`
unfoldable pub pair_at : Format → List (List ℕ) → Result ((List ℕ × List ℕ) × List (List ℕ)) LineFault
pair_at format words = do
  name ← word_at words
  if bytes_eq name.0 (codes "row") then (do
    key ← key_at format name.1
    value ← value_at format key.1
    Ok ((key.0, value.0), value.1)) else Err Follow

unfoldable pub pair_of : Format → List ℕ → Result (List ℕ × List ℕ) LineFault
pair_of format text = do
  words ← words_at text
  to_the_end (pair_at format words)

-- the row of a line
unfoldable pub row_line_at : Format → List ℕ → Result (List ℕ × List ℕ) LineFault
row_line_at format line = do
  text ← text_at format line
  told_as Follow (pair_of format text)

-- the message of a line
unfoldable pub message_line_at : Format → List ℕ → Result Message LineFault
message_line_at format line = do
  text ← text_at format line
  ok_or (message_of format line) Follow

-- why a line is no message, as the fault of a line that follows
abbrev pub read_error_of : MessageFault → ReadError
read_error_of message_faults.NoMemory = errors.NoMemory
read_error_of _ = errors.Fault Follow

abbrev pub is_value : Option Kind → Bool
is_value (Some kind.Value) = true
is_value _ = false

-- the word of a value, where the answer that is named first is one
abbrev pub value_words : List (List ℕ) → List (List ℕ)
value_words [] = []
value_words (name ∷ words) = if is_value (kind_of replies name) then take 1 words else []

-- the words of an event's first line that are keys, values or bounds, where it is right up to `=>`
unfoldable pub event_words_of : List (List ℕ) → Result (List (List ℕ)) LineFault
event_words_of words = do
  position ← number_at words
  session ← session_at 64 position.1
  row ← row_at table session.1
  answer ← behind_arrow row.0.arguments row.1
  Ok (byte_words row.0.verb row.1 ++ value_words answer)

unfoldable pub event_words_at : Format → List ℕ → Result (List (List ℕ)) LineFault
event_words_at format line = do
  text ← text_at format line
  words ← words_at text
  event_words_of words

-- lines of rows or of messages follow
abbrev pub has_lines : Shape → Bool
has_lines (shape.Alone r) = false
has_lines (shape.Rows n) = nat_lt 0 n
has_lines (shape.Messages n) = nat_lt 0 n

-- it was read, and has this
abbrev pub ok_has : {A : Type 0} → (A → Bool) → Result A LineFault → Bool
ok_has has (Ok x) = has x
ok_has has (Err f) = false

-- one of the words of an event's first line that are keys, values or bounds is long
abbrev pub words_want : Format → List ℕ → Bool
words_want format line = ok_has (list_any is_long) (event_words_at format line)

-- it counts lines that follow
abbrev pub counts_lines : Format → List ℕ → Bool
counts_lines format line = ok_has (λ (h : Heading). has_lines h.shape) (heading_at format line)

-- so it is with the first of the lines, or it counts lines of which one is there
abbrev pub lines_want : Format → List (List ℕ) → Bool
lines_want format [] = false
lines_want format (line ∷ lines) = words_want format line || (counts_lines format line && nat_lt 0 (length lines))

-- the event at a place may want memory to be read
abbrev pub wants_at : Format → Place → Bool
wants_at format p = lines_want format p.lines
