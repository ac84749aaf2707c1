-- Reading from left to right: the value, or the first fault that is met. Which words may want memory.
use Rattle.std.specs.Prelude.{◌≡◌, ℕ, nat_le, ◌&&◌, if◌then◌else◌, List, [], ◌∷◌, length, codes, Option, Some, None, Result, Ok, Err, ok_or, bytes_eq, nat_lt, Bool, take}
use Rattle.std.specs.List.{list_any}
use Rattle.spans.specs.declared.span.Span.{Span}
use Rattle.spelled_words.specs.Prelude.{Format, bound_limit, key_limit, number_of, value_limit, LineFault, WordCount, Number, KeyLength, ValueLength, BadByte}
use Rattle.spelled_words.specs.declared.fault.ReadError.{ReadError}
use Rattle.spelled_words.specs.Words.{bytes_of}
use Rattle.spelled_words.specs.declared.fault.ReadError.TheVariants as errors

infixl 10 ◌>>=◌
abbrev pub ◌>>=◌ : {A B E : Type 0} → Result A E → (A → Result B E) → Result B E
(Ok x) >>= f = f x
(Err e) >>= f = Err e

-- what a function returned, seen by view, is what reading gives, unless memory ran out
abbrev pub Fails : {Y : Type 0} → ReadError → Result Y LineFault → Type 0
Fails errors.NoMemory read = Unit {0}
Fails (errors.Fault f) read = read ≡ Err f

abbrev pub Gives : {X Y : Type 0} → (X → Y) → Result X ReadError → Result Y LineFault → Type 0
Gives view (Ok x) read = read ≡ Ok (view x)
Gives view (Err e) read = Fails e read

-- the same of a function that takes words off the front, with the words that it leaves
abbrev pub Takes : {X : Type 0} → Result X ReadError → List (List ℕ) → Result (X × List (List ℕ)) LineFault → Type 0
Takes (Ok x) left read = read ≡ Ok (x, left)
Takes (Err e) left read = Fails e read

-- the next word
abbrev pub word_at : List (List ℕ) → Result (List ℕ × List (List ℕ)) LineFault
word_at [] = Err WordCount
word_at (word ∷ words) = Ok (word, words)

unfoldable pub number_at : List (List ℕ) → Result (ℕ × List (List ℕ)) LineFault
number_at words = do
  w ← word_at words
  n ← ok_or (number_of w.0) Number
  Ok (n, w.1)

-- the bytes of a word, of a length in range
abbrev pub bytes_at : (least most : ℕ) → LineFault → List (List ℕ) → Result (List ℕ × List (List ℕ)) LineFault
bytes_at least most fault words = do
  w ← word_at words
  bytes ← ok_or (bytes_of w.0) BadByte
  if nat_le least (length bytes) && nat_le (length bytes) most then Ok (bytes, w.1) else Err fault

unfoldable pub key_at : Format → List (List ℕ) → Result (List ℕ × List (List ℕ)) LineFault
key_at format words = bytes_at 1 (key_limit format) KeyLength words

unfoldable pub value_at : Format → List (List ℕ) → Result (List ℕ × List (List ℕ)) LineFault
value_at format words = bytes_at 0 (value_limit format) ValueLength words

-- a bound, or `-` for none
unfoldable pub bound_at : Format → List (List ℕ) → Result (Option (List ℕ) × List (List ℕ)) LineFault
bound_at format words = do
  w ← word_at words
  if bytes_eq w.0 (codes "-") then Ok (None, w.1) else (bytes_at 1 (bound_limit format) KeyLength words >>= λ b. Ok (Some b.0, b.1))

unfoldable pub span_at : Format → List (List ℕ) → Result (Span × List (List ℕ)) LineFault
span_at format words = do
  lo ← bound_at format words
  hi ← bound_at format lo.1
  Ok (record { lo = lo.0; hi = hi.0 }, hi.1)

-- a number, and behind it a key
unfoldable pub number_and_key_at : Format → List (List ℕ) → Result ((ℕ × List ℕ) × List (List ℕ)) LineFault
number_and_key_at format words = do
  n ← number_at words
  key ← key_at format n.1
  Ok ((n.0, key.0), key.1)

-- a number, and behind it a span
unfoldable pub number_and_span_at : Format → List (List ℕ) → Result ((ℕ × Span) × List (List ℕ)) LineFault
number_and_span_at format words = do
  n ← number_at words
  span ← span_at format n.1
  Ok ((n.0, span.0), span.1)

-- a span, and behind it a cursor
unfoldable pub opening_at : Format → List (List ℕ) → Result ((Span × ℕ) × List (List ℕ)) LineFault
opening_at format words = do
  span ← span_at format words
  cursor ← number_at span.1
  Ok ((span.0, cursor.0), cursor.1)

-- a span, and behind it a cursor and a gap
unfoldable pub opening_every_at : Format → List (List ℕ) → Result ((Span × ℕ × ℕ) × List (List ℕ)) LineFault
opening_every_at format words = do
  opening ← opening_at format words
  gap ← number_at opening.1
  Ok ((opening.0.0, opening.0.1, gap.0), gap.1)

-- more bytes than lie in place
abbrev pub is_long : List ℕ → Bool
is_long word = nat_lt 24 (length word)

-- one of the first words is long
abbrev pub has_long : ℕ → List (List ℕ) → Bool
has_long count words = list_any is_long (take count words)
