-- Reading a line from left to right: the command, or the first fault that is met. How a word is read as a number, a key, a
-- value or a span is `spelled_words`' own. Which lines may want memory.
use Rattle.std.specs.Prelude.{◌≡◌, ℕ, ◌==◌, nat_lt, if◌then◌else◌, List, length, Result, Ok, Err, ok_or, true, [], take, drop, IsOkAnd}
use Rattle.spelled_words.specs.declared.fault.LineFault.TheVariants.{WordCount, UnknownCommand, Session}
pub use Rattle.spelled_words.specs.Reading.{◌>>=◌, Fails, Gives, Takes, word_at, bytes_at}
unfoldable pub use Rattle.spelled_words.specs.Reading.{number_at, key_at, value_at, bound_at, span_at, number_and_key_at, number_and_span_at, opening_at, opening_every_at}
use Rattle.word_lines.specs.Prelude.{Cmd, Format, LineFault, is_long, list_any, Verb, Form}
use Rattle.word_lines.specs.Meaning.{number_of}
use Rattle.word_lines.specs.Words.{text_at, words_at, words}
use Rattle.word_lines.specs.Table.{Signature, Nothing, Number, Numbers, NumberKey, NumberKeyValue, NumberSpan, SpanNumber, SpanNumbers, Parts, Layout, Row, layout_of, row_of}
use Rattle.word_lines.specs.declared.table.Verb.TheVariants as verb

-- what a function took off the front where memory isn't needed, with the words that it leaves
abbrev pub TakesFree : {X : Type 0} → Result X LineFault → List (List ℕ) → Result (X × List (List ℕ)) LineFault → Type 0
TakesFree (Ok x) left read = read ≡ Ok (x, left)
TakesFree (Err e) left read = read ≡ Err e

unfoldable pub session_at : ℕ → List (List ℕ) → Result (ℕ × List (List ℕ)) LineFault
session_at seats words = do
  w ← word_at words
  n ← ok_or (number_of w.0) Session
  if nat_lt n seats then Ok (n, w.1) else Err Session

unfoldable pub row_at : List Row → List (List ℕ) → Result (Form × List (List ℕ)) LineFault
row_at rows words = do
  w ← word_at words
  r ← ok_or (row_of rows w.0) UnknownCommand
  Ok (r, w.1)

-- what stands behind a name
unfoldable pub parts_at : Format → (signature : Signature) → List (List ℕ) → Result (Parts signature × List (List ℕ)) LineFault
parts_at format Nothing words = Ok (tt, words)
parts_at format Number words = number_at words
parts_at format Numbers words = do
  first ← number_at words
  second ← number_at first.1
  Ok ((first.0, second.0), second.1)
parts_at format NumberKey words = number_and_key_at format words
parts_at format NumberKeyValue words = do
  k ← number_and_key_at format words
  value ← value_at format k.1
  Ok ((k.0.0, k.0.1, value.0), value.1)
parts_at format NumberSpan words = number_and_span_at format words
parts_at format SpanNumber words = opening_at format words
parts_at format SpanNumbers words = opening_every_at format words

-- a command, from the words of its arguments
abbrev pub laid_at : Format → Layout → List (List ℕ) → Result (Cmd × List (List ℕ)) LineFault
laid_at format layout words = do
  p ← parts_at format layout.signature words
  Ok (layout.make p.0, p.1)

-- that of a verb; the first line has each case compute
unfoldable pub arguments_at : Format → Verb → List (List ℕ) → Result (Cmd × List (List ℕ)) LineFault
arguments_at format verb.Begin words = laid_at format (layout_of verb.Begin) words
arguments_at format v words = laid_at format (layout_of v) words

-- the tests of a line's words that need none of its arguments: the last is how many words there are
unfoldable pub counted_at : List Row → ℕ → List (List ℕ) → Result (Unit {0}) LineFault
counted_at rows seats words =
    if nat_lt (length words) 2 then Err WordCount else (do
      session ← session_at seats words
      row ← row_at rows session.1
      if length row.1 == row.0.arguments then Ok tt else Err WordCount)

-- the session and the command, where no word was counted before the last argument was read
unfoldable pub taken_of : Format → List Row → ℕ → List (List ℕ) → Result (ℕ × Cmd) LineFault
taken_of format rows seats words = do
  session ← session_at seats words
  row ← row_at rows session.1
  c ← arguments_at format row.0.verb row.1
  if length c.1 == 0 then Ok (session.0, c.0) else Err WordCount

-- the session and the command, from the words of a line: its arguments count last
unfoldable pub command_of : Format → List Row → ℕ → List (List ℕ) → Result (ℕ × Cmd) LineFault
command_of format rows seats words = do
  _ ← counted_at rows seats words
  taken_of format rows seats words

-- the session and the command of a line: the tests in the order in which they count
unfoldable pub command_at : Format → List Row → ℕ → List ℕ → Result (ℕ × Cmd) LineFault
command_at format rows seats line = do
  text ← text_at format line
  words ← words_at text
  command_of format rows seats words

-- the words behind a name that are keys, values or bounds
abbrev pub byte_parts : Signature → List (List ℕ) → List (List ℕ)
byte_parts NumberKey words = take 1 (drop 1 words)
byte_parts NumberKeyValue words = take 2 (drop 1 words)
byte_parts NumberSpan words = take 2 (drop 1 words)
byte_parts SpanNumber words = take 2 words
byte_parts SpanNumbers words = take 2 words
byte_parts _ words = []

-- the same among a command's arguments
abbrev pub byte_words : Verb → List (List ℕ) → List (List ℕ)
byte_words v words = byte_parts (layout_of v).signature words

-- the same among the words of a text, behind a session and a name
unfoldable pub byte_words_of : List Row → ℕ → List (List ℕ) → Result (List (List ℕ)) LineFault
byte_words_of rows seats words = do
  session ← session_at seats words
  row ← row_at rows session.1
  Ok (byte_words row.0.verb row.1)

-- they were read so far, and one of these words is long
abbrev pub WantsMemory : Result (List (List ℕ)) LineFault → Type 0
WantsMemory read = IsOkAnd read (λ words. list_any is_long words ≡ true)

-- those of a line
unfoldable pub byte_words_at : Format → List Row → ℕ → List ℕ → Result (List (List ℕ)) LineFault
byte_words_at format rows seats line = do
  text ← text_at format line
  byte_words_of rows seats (words text)
