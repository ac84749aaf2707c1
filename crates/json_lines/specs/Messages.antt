-- The JSON line (RFC 8259) of a message of a feed, with bytes as base64 (RFC 4648), and what a writer leaves in the
-- buffer that it is lent.
use Rattle.std.specs.Prelude.{ℕ, ◌<◌, ◌≤◌, List, ◌++◌, length, codes, decimal, Option, Some, None, ◌≡◌, take, drop}
use Rattle.std.specs.List.{AllByRecursion}
use Rattle.spans.specs.declared.calls.messages.Message.TheVariants as message
use Rattle.json_lines.specs.Prelude.{Format, Message, encode_of, engine_symbols, key_limit, standard, value_limit}

-- the standard alphabet
abbrev pub symbols : List ℕ
symbols = engine_symbols standard

-- with padding
abbrev pub base64 : List ℕ → List ℕ
base64 bytes = encode_of standard bytes

-- the value in quotes, or `null` for a delete
abbrev pub after_text : Option (List ℕ) → List ℕ
after_text None = codes "null"
after_text (Some value) = codes "\"" ++ base64 value ++ codes "\""

-- members in byte order of their names, no spaces
unfoldable pub message_line : Message → List ℕ
message_line (message.Row row) = codes "{\"after\":" ++ after_text row.after ++ codes ",\"key\":\"" ++ base64 row.key ++ codes "\",\"updated\":\"" ++ decimal row.ts ++ codes "\"}\n"
message_line (message.Resolved ts) = codes "{\"resolved\":\"" ++ decimal ts ++ codes "\"}\n"

abbrev pub AreBytes : List ℕ → Type 0
AreBytes bytes = AllByRecursion (λ b. b < 256) bytes

abbrev pub IsTimestamp : ℕ → Type 0
IsTimestamp ts = (1 ≤ ts) × (ts ≤ 9223372036854775807)

-- a key of the format
abbrev pub IsKey : Format → List ℕ → Type 0
IsKey format key = (1 ≤ length key) × (length key ≤ key_limit format) × AreBytes key

-- a value of the format, or none for a delete
abbrev pub IsAfter : Format → Option (List ℕ) → Type 0
IsAfter format None = Unit {0}
IsAfter format (Some value) = (length value ≤ value_limit format) × AreBytes value

-- the messages that have a line of the format
abbrev pub IsMessage : Format → Message → Type 0
IsMessage format (message.Row row) = IsTimestamp row.ts × IsKey format row.key × IsAfter format row.after
IsMessage format (message.Resolved ts) = IsTimestamp ts

-- what stood there stands there, and more may stand behind it
pub record Keeps (old new : List ℕ) : Type 0 where
  pub more : List ℕ
  pub is : new ≡ old ++ more

-- the text stands at the front of the bytes, as far as there is room, the other bytes are as they were, and its whole length is told
abbrev pub Copied : List ℕ → (old new : List ℕ) → ℕ → Type 0
Copied text old new told = (told ≡ length text) × (new ≡ take (length old) text ++ drop (length text) old)
