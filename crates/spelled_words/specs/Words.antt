-- Lines cut into words, and bytes spelled as a word, and back (this project's own; `%` and two digits as in RFC 3986).
use Rattle.std.specs.Prelude.{ℕ, ◌-◌, ◌==◌, nat_lt, nat_le, Bool, not, ◌&&◌, if◌then◌else◌, List, [], length, take, slice_index, Option, Some, None, Result, Ok, Err, ◌<◌, ◌+◌, ◌*◌, ◌/◌, ◌%◌, ◌∷◌, drop, codes, bytes_eq, option_and_then}
use Rattle.std.specs.Borrow.{Bor}
use Rattle.std.specs.List.{flat_map, AllByRecursion}
use Rattle.spelled_words.specs.Prelude.{Format, line_limit, list_all, list_any, slice_split, LineFault, WordCount, NoNewline, LineTooLong, BadByte}
use Rattle.spelled_words.specs.declared.spelling.Spelled.{Spelled}
use Rattle.spelled_words.specs.declared.spelling.Spelled.TheVariants.{Plain, Escaped}

-- only the last byte counts as the newline
abbrev pub has_newline : List ℕ → Bool
has_newline line = slice_index line (length line - 1) == 10

abbrev pub without_newline : List ℕ → List ℕ
without_newline line = if has_newline line then take (length line - 1) line else line

-- a line's length is tested before its bytes
unfoldable pub text_at : Format → List ℕ → Result (List ℕ) LineFault
text_at format line =
    if nat_lt (line_limit format) (length (without_newline line)) then Err LineTooLong
    else if not (has_newline line) then Err NoNewline
    else Ok (without_newline line)

-- the space to `~`
abbrev pub is_printable : ℕ → Bool
is_printable b = nat_le 32 b && nat_le b 126

abbrev pub is_space : ℕ → Bool
is_space b = b == 32

-- a word is what stands between two spaces, and may be empty here
abbrev pub words : List ℕ → List (List ℕ)
words text = slice_split is_space text

abbrev pub is_empty : List ℕ → Bool
is_empty word = length word == 0

-- the words of a text, none of them empty
unfoldable pub words_at : List ℕ → Result (List (List ℕ)) LineFault
words_at text =
    if not (list_all is_printable text) then Err BadByte
    else if list_any is_empty (words text) then Err WordCount
    else Ok (words text)

-- the words that are still to come
abbrev pub words_left : Option (Bor (List ℕ)) → List (List ℕ)
words_left None = []
words_left (Some rest) = words rest.now

-- `!` to `~` stand for themselves, but for `%`
abbrev pub is_plain : ℕ → Bool
is_plain b = nat_le 33 b && nat_le b 126 && not (b == 37)

-- a digit of `0123456789ABCDEF`
abbrev pub hex_digit : ℕ → ℕ
hex_digit d = if nat_lt d 10 then 48 + d else 55 + d

-- `%` and the two digits of a byte
abbrev pub escape : ℕ → List ℕ
escape b = 37 ∷ hex_digit (b / 16) ∷ hex_digit (b % 16) ∷ []

-- a byte among others
abbrev pub spelled : ℕ → List ℕ
spelled b = if is_plain b then b ∷ [] else escape b

-- no bytes are `-`, so a lone `-` is escaped
unfoldable pub spelling : List ℕ → List ℕ
spelling [] = 45 ∷ []
spelling (b ∷ []) = if b == 45 then escape 45 else spelled b
spelling (b ∷ c ∷ bs) = flat_map spelled (b ∷ c ∷ bs)

-- the value of a digit of `0123456789ABCDEF`
abbrev pub hex_value : ℕ → Option ℕ
hex_value c = if nat_le 48 c && nat_le c 57 then Some (c - 48) else (if nat_le 65 c && nat_le c 70 then Some (c - 55) else None)

-- the byte of two digits, unless it stands for itself
abbrev pub escaped : ℕ → ℕ → Option ℕ
escaped high low = option_and_then (λ h. option_and_then (λ l. if is_plain (h * 16 + l) then None else Some (h * 16 + l)) (hex_value low)) (hex_value high)

abbrev pub with_front : ℕ → Option (List ℕ) → Option (List ℕ)
with_front b bytes = option_and_then (λ bs. Some (b ∷ bs)) bytes

-- the byte that is spelled at the front, and what stands behind it
abbrev pub first_at : List ℕ → Option (ℕ × List ℕ)
first_at word =
    if is_plain (slice_index word 0) then Some (slice_index word 0, drop 1 word)
    else if slice_index word 0 == 37 && nat_le 3 (length word) then option_and_then (λ b. Some (b, drop 3 word)) (escaped (slice_index word 1) (slice_index word 2))
    else None

-- bytes from left to right, each as itself or as `%` and two digits, whichever is its spelling
unfoldable pub unspelled : List ℕ → Option (List ℕ)
unspelled [] = Some []
unspelled (c ∷ []) = if is_plain c then Some (c ∷ []) else None
unspelled (c ∷ d ∷ []) = if is_plain c && is_plain d then Some (c ∷ d ∷ []) else None
unspelled (c ∷ h ∷ l ∷ word) = if is_plain c then with_front c (unspelled (h ∷ l ∷ word)) else (if c == 37 then option_and_then (λ b. with_front b (unspelled word)) (escaped h l) else None)

-- the bytes that a word spells; a word that isn't the spelling of any bytes is bad
unfoldable pub bytes_of : List ℕ → Option (List ℕ)
bytes_of word =
    if length word == 0 then None
    else if bytes_eq word (codes "-") then Some []
    else if bytes_eq word (codes "%2D") then Some (codes "-")
    else unspelled word

abbrev pub AreBytes : List ℕ → Type 0
AreBytes bytes = AllByRecursion (λ b. b < 256) bytes

-- what a word was read as
abbrev pub spelled_bytes : Spelled → List ℕ
spelled_bytes (Plain bytes) = bytes.now
spelled_bytes (Escaped bytes) = bytes.items
