-- What is written of a command is words, and not too long.
use Rattle.word_lines.proofs.Common.{AllByRecursion, Cmd, Format, bound_limit, common_steps, decimal_nonempty, flat_map, key_limit, le-leb, length-append, length-decimal-le, line_limit, list_all, list_all-append, value_limit}
use Rattle.std.proofs.Common.{rules, ◌≡◌, ℕ, ◌+◌, ◌*◌, ◌/◌, ◌%◌, ◌<◌, ◌≤◌, Bool, true, false, cond, List, [], ◌∷◌, ◌++◌, length, Option, Some, None, refl, ap, ◌∙◌, lit<, arith}
use Rattle.std.specs.Prelude.{decimal, ◌==◌}
use Rattle.text_format.specs.declared.Format.TheVariants.{One, Two}
use Rattle.word_lines.specs.Words.{is_plain, hex_digit, escape, spelled, spelling, AreBytes}
use Rattle.word_lines.specs.Events.{joined, bound_word, parts_words, words_of}
use Rattle.word_lines.specs.Table.{Signature, Nothing, Number, Numbers, NumberKey, NumberKeyValue, NumberSpan, SpanNumber, SpanNumbers, Parts, layout_of, pieces_of}
use Rattle.word_lines.specs.declared.table.Verb.{Verb}
use Rattle.word_lines.specs.Limits.{IsNumber, IsBound, AreParts, IsCommand}
use Rattle.word_lines.proofs.Joining.{words_are}
use Rattle.word_lines.proofs.JoinedParts.{is_graphic, IsWord, decimal_all}

-- a byte from `!` to `~`
graphic : (b : ℕ) → 33 ≤ b → b ≤ 126 → is_graphic b ≡ true
graphic b low high = rw (le-leb 33 b low, le-leb b 126 high) refl

-- ---- one word

-- a number is a word
pub number_word : (n : ℕ) → IsNumber n → IsWord (decimal n)
number_word n lt = (decimal_nonempty n lt, decimal_all is_graphic (λ d small. graphic (48 + d) (omega arith) (omega arith)) n lt)

-- of at most twenty digits
pub number_length : (n : ℕ) → IsNumber n → length (decimal n) ≤ 20
number_length n lt = length-decimal-le 20 n (lit< tt) (omega arith) lt

hex_graphic : (d : ℕ) → d < 16 → is_graphic (hex_digit d) ≡ true
hex_graphic d small = grind (arith, common_steps)

-- a byte is spelled by one to three bytes from `!` to `~`
record IsSpelled (word : List ℕ) (most : ℕ) : Type 0 where
  graphic : list_all is_graphic word ≡ true
  some : 1 ≤ length word
  few : length word ≤ most

escape_spelled : (b : ℕ) → b < 256 → IsSpelled (escape b) 3
escape_spelled b small = record { graphic = rw (hex_graphic (b / 16) (omega arith), hex_graphic (b % 16) (omega arith)) refl; some = omega arith; few = omega arith }

byte_spelled : (plain : Bool) (b : ℕ) → is_plain b ≡ plain → b < 256 → IsSpelled (cond plain (b ∷ []) (escape b)) 3
byte_spelled true b e small = grind (arith, common_steps)
byte_spelled false b e small = escape_spelled b small

bytes_graphic : (bytes : List ℕ) → AreBytes bytes → list_all is_graphic (flat_map spelled bytes) ≡ true
bytes_graphic [] fits = refl
bytes_graphic (b ∷ bytes) fits = list_all-append is_graphic (spelled b) (flat_map spelled bytes) ∙ rw ((byte_spelled (is_plain b) b refl fits.0).graphic) (bytes_graphic bytes fits.1)

bytes_length : (bytes : List ℕ) → AreBytes bytes → (length bytes ≤ length (flat_map spelled bytes)) × (length (flat_map spelled bytes) ≤ 3 * length bytes)
bytes_length [] fits = (omega arith, omega arith)
bytes_length (b ∷ bytes) fits = grind (arith, common_steps, bytes_length bytes fits.1)

alone_spelled : (dash : Bool) (b : ℕ) → b < 256 → IsSpelled (cond dash (escape 45) (spelled b)) 4
alone_spelled true b small = let s = escape_spelled 45 (lit< tt) in record { graphic = s.graphic; some = s.some; few = omega (arith, s.few) }
alone_spelled false b small = let s = byte_spelled (is_plain b) b refl small in record { graphic = s.graphic; some = s.some; few = omega (arith, s.few) }

spelling_spelled : (bytes : List ℕ) → AreBytes bytes → IsSpelled (spelling bytes) (3 * length bytes + 1)
unfolding spelling
spelling_spelled [] fits = record { graphic = refl; some = omega arith; few = omega arith }
spelling_spelled (b ∷ []) fits = let s = alone_spelled (b == 45) b fits.0 in record { graphic = s.graphic; some = s.some; few = omega (arith, s.few) }
spelling_spelled (b ∷ c ∷ bytes) fits = search (bytes_length, graphic, bytes_graphic, rules, arith)

-- the spelling of bytes is a word
pub bytes_word : (bytes : List ℕ) → AreBytes bytes → IsWord (spelling bytes)
bytes_word bytes fits = let s = spelling_spelled bytes fits in (omega (arith, s.some), s.graphic)

-- at most three times as long
pub bytes_few : (bytes : List ℕ) (most : ℕ) → AreBytes bytes → length bytes ≤ most → length (spelling bytes) ≤ 3 * most + 1
bytes_few bytes most fits le = let s = spelling_spelled bytes fits in omega (arith, s.few)

module _ (format : Format) where
  -- a bound is a word
  pub bound_is_word : (bound : Option (List ℕ)) → IsBound format bound → IsWord (bound_word bound)
  bound_is_word None is = (omega arith, refl)
  bound_is_word (Some bytes) is = bytes_word bytes is.2

  bound_few : (bound : Option (List ℕ)) → IsBound format bound → length (bound_word bound) ≤ 3 * bound_limit format + 1
  bound_few None is = omega arith
  bound_few (Some bytes) is = bytes_few bytes (bound_limit format) is.2 is.1

-- ---- words in a row

-- words and then words are words
pub words_then : (ws more : List (List ℕ)) → AllByRecursion IsWord ws → AllByRecursion IsWord more → AllByRecursion IsWord (ws ++ more)
words_then [] more are rest = rest
words_then (w ∷ ws) more are rest = (are.0, words_then ws more are.1 rest)

-- how many bytes words take, a space behind each
abbrev pub letters : List (List ℕ) → ℕ
letters [] = 0
letters (w ∷ ws) = length w + 1 + letters ws

-- so many bytes are enough for the words, joined
pub joined_few : (ws : List (List ℕ)) → length (joined ws) ≤ letters ws
joined_few [] = omega arith
joined_few (w ∷ []) = omega arith
joined_few (w ∷ next ∷ ws) = omega (arith, length-append w (32 ∷ joined (next ∷ ws)), joined_few (next ∷ ws))

-- a line has room for a key and a value of escaped bytes, and for two bounds
pub room : (format : Format) → (3 * key_limit format + 3 * value_limit format + 200 ≤ line_limit format) × (6 * bound_limit format + 200 ≤ line_limit format)
room One = (omega arith, omega arith)
room Two = (omega arith, omega arith)

-- a name is a word, and short
pub names : (v : Verb) → list_all is_graphic (layout_of v).name ≡ true
names v = grind arith

pub names_some : (v : Verb) → 0 < length (layout_of v).name
names_some v = grind arith

names_few : (v : Verb) → length (layout_of v).name ≤ 16
names_few v = grind arith

module _ (format : Format) where
  -- the longest have a key and a value of escaped bytes
  parts_few : (s : Signature) (p : Parts s) → AreParts format s p → letters (parts_words s p) + 113 ≤ line_limit format
  parts_few Nothing p is = let r = room format in omega (arith, r.0)
  parts_few Number n is = let r = room format in omega (arith, r.0, number_length n is)
  parts_few Numbers p is = let r = room format in omega (arith, r.0, number_length p.0 is.0, number_length p.1 is.1)
  parts_few NumberKey p is = let r = room format in omega (arith, r.0, number_length p.0 is.0, bytes_few p.1 (key_limit format) is.1.2 is.1.1)
  parts_few NumberKeyValue p is = let r = room format in omega (arith, r.0, number_length p.0 is.0, bytes_few p.1 (key_limit format) is.1.2 is.1.1, bytes_few p.2 (value_limit format) is.2.1 is.2.0)
  parts_few NumberSpan p is = let r = room format in omega (arith, r.1, number_length p.0 is.0, bound_few format p.1.lo is.1.0, bound_few format p.1.hi is.1.1)
  parts_few SpanNumber p is = let r = room format in omega (arith, r.1, bound_few format p.0.lo is.0.0, bound_few format p.0.hi is.0.1, number_length p.1 is.1)
  parts_few SpanNumbers p is = let r = room format in omega (arith, r.1, bound_few format p.0.lo is.0.0, bound_few format p.0.hi is.0.1, number_length p.1 is.1, number_length p.2 is.2)

  pub command_few : (c : Cmd) → IsCommand format c → letters (words_of c) + 96 ≤ line_limit format
  unfolding IsCommand
  command_few c is = let p = pieces_of c in omega (arith, ap letters (words_are c), names_few p.verb, parts_few (layout_of p.verb).signature p.parts is)
