-- Number words, the texts of a message's members, and the message that they mean, or what is wrong with them.
use Rattle.std.specs.Prelude.{ℕ, ◌^◌, ◌==◌, nat_lt, Bool, not, ◌&&◌, ◌||◌, if◌then◌else◌, List, length, slice_index, Option, Some, None, ◌≡◌, ◌≢◌, Result, Ok, Err, decimal, option_map, nat_le, ok_or}
use Rattle.std.specs.Str.{all_ascii_digits}
use Rattle.std.specs.Str.Parse.{digits_value}
use Rattle.timestamps.specs.declared.row.Row.{Row}
use Rattle.spans.specs.declared.calls.messages.Message.TheVariants as message
use Rattle.json_lines.specs.Messages.{base64}
use Rattle.json_lines.specs.declared.texts.Texts.{Texts as Lent}
use Rattle.json_lines.specs.Prelude.{MessageFault, NoMemory, Number, Base64, Length, Format, Message, decoded_of, key_limit, standard, value_limit}
use Rattle.json_lines.specs.declared.texts.Texts.TheVariants as lent

-- decimal digits without a leading zero, `0` alone for nought
abbrev pub is_number_word : List ℕ → Bool
is_number_word word = nat_lt 0 (length word) && all_ascii_digits word && (length word == 1 || not (slice_index word 0 == 48))

-- the number that a word writes, from 0 to 18446744073709551615
unfoldable pub number_of : List ℕ → Option ℕ
number_of word = if is_number_word word && nat_lt (digits_value 10 word) (2 ^ 64) then Some (digits_value 10 word) else None

-- steps of reading: each gives its value, or the fault that ends the reading
infixl 10 ◌>>=◌
abbrev pub ◌>>=◌ : {A B : Type 0} → Result A MessageFault → (A → Result B MessageFault) → Result B MessageFault
(Ok x) >>= f = f x
(Err e) >>= f = Err e

-- what a function returned, seen by view, is what the steps give
abbrev pub Reads : {X Y : Type 0} → (X → Y) → Result X MessageFault → Result Y MessageFault → Type 0
Reads view (Ok x) steps = steps ≡ Ok (view x)
Reads view (Err e) steps = steps ≡ Err e

-- the same of a function that takes memory, unless memory ran out
abbrev pub Gives : {X Y : Type 0} → (X → Y) → Result X MessageFault → Result Y MessageFault → Type 0
Gives view (Ok x) steps = steps ≡ Ok (view x)
Gives view (Err e) steps = e ≢ NoMemory → steps ≡ Err e

-- of a resolved message its one member, of a row `after`, `key` and `updated`
pub data Texts : Type 0 where
  resolved : List ℕ → Texts
  row : Option (List ℕ) → List ℕ → List ℕ → Texts

-- the texts that are written of a message
abbrev pub texts_of : Message → Texts
texts_of (message.Row r) = row (option_map base64 r.after) (base64 r.key) (decimal r.ts)
texts_of (message.Resolved ts) = resolved (decimal ts)

-- what the program's texts are, wherever they lie
abbrev pub texts_view : Lent → Texts
texts_view (lent.Resolved ts) = resolved ts.now
texts_view (lent.Row after key updated) = row (option_map (λ t. t.now) after) key.now updated.now

-- a number word from 1 to the greatest timestamp
unfoldable pub timestamp_of : List ℕ → Result ℕ MessageFault
timestamp_of text = do
  n ← ok_or (number_of text) Number
  if nat_le 1 n && nat_le n 9223372036854775807 then Ok n else Err Number

-- the bytes whose base64 it is
unfoldable pub bytes_of : List ℕ → Result (List ℕ) MessageFault
bytes_of text = ok_or (decoded_of standard text) Base64

unfoldable pub after_of : Option (List ℕ) → Result (Option (List ℕ)) MessageFault
after_of None = Ok None
after_of (Some text) = do
  bytes ← bytes_of text
  Ok (Some bytes)

-- a key has a byte at least, and no more than the format lets it have
unfoldable pub key_of : Format → List ℕ → Result (List ℕ) MessageFault
key_of format bytes = if nat_le 1 (length bytes) && nat_le (length bytes) (key_limit format) then Ok bytes else Err Length

-- a value has no more than the format lets it have
unfoldable pub value_of : Format → Option (List ℕ) → Result (Option (List ℕ)) MessageFault
value_of format None = Ok None
value_of format (Some bytes) = if nat_le (length bytes) (value_limit format) then Ok (Some bytes) else Err Length

-- a row: its number is tested first, then base64, then lengths
unfoldable pub row_of : Format → Option (List ℕ) → List ℕ → List ℕ → Result Row MessageFault
row_of format after_text key_text updated = do
  ts ← timestamp_of updated
  key_bytes ← bytes_of key_text
  after_bytes ← after_of after_text
  key ← key_of format key_bytes
  after ← value_of format after_bytes
  Ok (record { ts = ts; key = key; after = after })

unfoldable pub message_of : Format → Texts → Result Message MessageFault
message_of format (resolved text) = do
  ts ← timestamp_of text
  Ok (message.Resolved ts)
message_of format (row after key updated) = do
  r ← row_of format after key updated
  Ok (message.Row r)
