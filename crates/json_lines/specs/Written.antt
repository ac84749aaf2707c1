-- A message's line taken apart from left to right, as it is written and not otherwise.
use Rattle.std.specs.Prelude.{ℕ, ◌==◌, Bool, if◌then◌else◌, List, [], ◌∷◌, codes, bytes_eq, Option, Some, None, Result, Ok, Err}
use Rattle.json_lines.specs.Prelude.{MessageFault, Shape}
use Rattle.json_lines.specs.Meaning.{Texts, resolved, row, ◌>>=◌}

-- what stands behind a front
abbrev pub behind : List ℕ → List ℕ → Result (List ℕ) MessageFault
behind [] bytes = Ok bytes
behind (x ∷ front) [] = Err Shape
behind (x ∷ front) (b ∷ bytes) = if b == x then behind front bytes else Err Shape

abbrev pub is_quote : ℕ → Bool
is_quote b = b == 34

-- what stands before the first quote, and what behind it
abbrev pub quoted : List ℕ → Result (List ℕ × List ℕ) MessageFault
quoted [] = Err Shape
quoted (b ∷ bytes) = if is_quote b then Ok ([], bytes) else (quoted bytes >>= λ p. Ok (b ∷ p.0, p.1))

-- the first that doesn't fail
abbrev pub otherwise : {A : Type 0} → Result A MessageFault → Result A MessageFault → Result A MessageFault
otherwise (Ok x) second = Ok x
otherwise (Err e) second = second

-- the last text, with which the line ends
unfoldable pub last_text : List ℕ → Result (List ℕ) MessageFault
last_text bytes = do
  text ← quoted bytes
  if bytes_eq text.1 (codes "}\n") then Ok text.0 else Err Shape

unfoldable pub text_at_front : List ℕ → Result (Option (List ℕ) × List ℕ) MessageFault
text_at_front bytes = do
  rest ← behind (codes "\"") bytes
  text ← quoted rest
  Ok (Some text.0, text.1)

unfoldable pub null_at_front : List ℕ → Result (Option (List ℕ) × List ℕ) MessageFault
null_at_front bytes = do
  rest ← behind (codes "null") bytes
  Ok (None, rest)

-- `null`, or a text in quotes
unfoldable pub after_at_front : List ℕ → Result (Option (List ℕ) × List ℕ) MessageFault
after_at_front bytes = otherwise (null_at_front bytes) (text_at_front bytes)

unfoldable pub resolved_written : List ℕ → Result Texts MessageFault
resolved_written line = do
  rest ← behind (codes "{\"resolved\":\"") line
  ts ← last_text rest
  Ok (resolved ts)

unfoldable pub row_written : List ℕ → Result Texts MessageFault
row_written line = do
  front ← behind (codes "{\"after\":") line
  after ← after_at_front front
  middle ← behind (codes ",\"key\":\"") after.1
  key ← quoted middle
  back ← behind (codes ",\"updated\":\"") key.1
  updated ← last_text back
  Ok (row after.0 key.0 updated)

unfoldable pub texts_written : List ℕ → Result Texts MessageFault
texts_written line = otherwise (resolved_written line) (row_written line)
