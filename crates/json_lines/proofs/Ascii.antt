-- A message's line is ASCII, so it is UTF-8.
use Rattle.std.proofs.Common.{◌≡◌, ℕ, ◌^◌, ◌<◌, Bool, true, List, get_or, Option, refl, arith}
use Rattle.std.specs.Prelude.{decimal, nat_lt}
use Rattle.json_lines.proofs.Common.{Format, IsUtf8, IsUtf8-from_ascii, Message, common_steps, list_all, list_all-append, ltb-true}
use Rattle.json_lines.specs.Messages.{base64, after_text, message_line, IsMessage}
use Rattle.json_lines.proofs.Base64.{at_each, base64_all}
use Rattle.json_lines.proofs.NumberWords.{decimal_all}

abbrev is_ascii : ℕ → Bool
is_ascii b = nat_lt b 128

base64_ascii : (bytes : List ℕ) → list_all is_ascii (base64 bytes) ≡ true
base64_ascii bytes = base64_all is_ascii refl refl refl bytes

number_ascii : (n : ℕ) → n < 2 ^ 64 → list_all is_ascii (decimal n) ≡ true
number_ascii n lt = decimal_all is_ascii (λ c digit. grind (arith, common_steps)) n lt

after_ascii : (after : Option (List ℕ)) → list_all is_ascii (after_text after) ≡ true
after_ascii after = grind (arith, common_steps, list_all-append, base64_ascii)

line_ascii : (format : Format) (m : Message) → IsMessage format m → list_all is_ascii (message_line m) ≡ true
unfolding message_line
line_ascii format m lawful = grind (arith, common_steps, list_all-append, after_ascii, base64_ascii, number_ascii)

pub line_utf8 : (format : Format) (m : Message) → IsMessage format m → IsUtf8 (message_line m)
line_utf8 format m lawful = IsUtf8-from_ascii (message_line m) (λ i. ltb-true (get_or (message_line m) i 0) 128 (at_each is_ascii (message_line m) (line_ascii format m lawful) refl i))
