-- A message's line is one line, and not too long.
use Rattle.std.proofs.Common.{◌≡◌, ℕ, ◌+◌, ◌*◌, ◌≤◌, List, [], ◌∷◌, ◌++◌, length, Option, Some, None, Ok, refl, sym, ap, ◌∙◌, append_assoc, arith}
use Rattle.std.specs.Prelude.{codes, decimal, not, ◌==◌, replicate}
use Rattle.pipes.proofs.Common.{Format, IsAfter, IsMessage, IsNumber, Lacks, Message, after_text, base64, decimal_all, key_limit, length-append, length-replicate, lines_again, lines_of, message_line, ne_eqb, number_length, room, symbols, text_again, text_at, value_limit}
use Rattle.std.proofs.lemmas.List.Folds.{list_all-append}
use Rattle.base64.proofs.RoundTrip.{length-encode_symbols}
use Rattle.base64.specs.Rfc4648.{encode_symbols, padding_len}
use Rattle.spans.specs.declared.calls.messages.Message.TheVariants as messages
use Rattle.script.proofs.MessageLines.{base64_all}

-- a message's line without its newline
abbrev pub message_text : Message → List ℕ
message_text (messages.Row row) = codes "{\"after\":" ++ after_text row.after ++ codes ",\"key\":\"" ++ base64 row.key ++ codes "\",\"updated\":\"" ++ decimal row.ts ++ codes "\"}"
message_text (messages.Resolved ts) = codes "{\"resolved\":\"" ++ decimal ts ++ codes "\"}"

message_ends : (m : Message) → message_line m ≡ message_text m ++ 10 ∷ []
unfolding message_line
message_ends (messages.Row row) = sym (append_assoc (codes "{\"after\":" ++ after_text row.after ++ codes ",\"key\":\"" ++ base64 row.key ++ codes "\",\"updated\":\"" ++ decimal row.ts) (codes "\"}") (10 ∷ []))
message_ends (messages.Resolved ts) = sym (append_assoc (codes "{\"resolved\":\"" ++ decimal ts) (codes "\"}") (10 ∷ []))

-- bytes without a newline, of which there are at most so many
record IsInLine (text : List ℕ) (most : ℕ) : Type 0 where
  clean : Lacks 10 text
  few : length text ≤ most

then_more : (a b : List ℕ) (m n : ℕ) → IsInLine a m → IsInLine b n → IsInLine (a ++ b) (m + n)
then_more a b m n p q = record { clean = list_all-append (λ c. not (c == 10)) a b ∙ rw (p.clean, q.clean) refl; few = omega (arith, length-append a b, p.few, q.few) }

number_in_line : (n : ℕ) → IsNumber n → IsInLine (decimal n) 20
number_in_line n is = record { clean = decimal_all (λ c. not (c == 10)) (λ d small. ap not (ne_eqb (48 + d) 10 (λ e. absurd (omega (arith, e))))) n is; few = number_length n is }

base64_in_line : (bytes : List ℕ) (most : ℕ) → length bytes ≤ most → IsInLine (base64 bytes) (2 * most + 4)
base64_in_line bytes most le = record {
  clean = base64_all (λ c. not (c == 10)) refl refl refl bytes;
  few = omega (arith, length-append (encode_symbols symbols bytes) (replicate (padding_len (length bytes)) 61), length-encode_symbols symbols bytes, length-replicate {A = ℕ} (padding_len (length bytes)) 61);
}

module _ (format : Format) where
  after_in_line : (after : Option (List ℕ)) → IsAfter format after → IsInLine (after_text after) (2 * value_limit format + 6)
  after_in_line None is = record { clean = refl; few = omega arith }
  after_in_line (Some value) is =
      let v = 2 * value_limit format + 4 in
      let a = then_more (codes "\"") (base64 value) 1 v (record { clean = refl; few = omega arith }) (base64_in_line value (value_limit format) is.0) in
      let b = then_more (codes "\"" ++ base64 value) (codes "\"") (1 + v) 1 a (record { clean = refl; few = omega arith }) in
      record { clean = b.clean; few = omega (arith, b.few) }

  text_in_line : (m : Message) → IsMessage format m → IsInLine (message_text m) (2 * key_limit format + 2 * value_limit format + 90)
  text_in_line (messages.Row row) is =
      let v = 2 * value_limit format + 6 in
      let k = 2 * key_limit format + 4 in
      let small : IsNumber row.ts = omega (arith, is.0.1) in
      let a = then_more (codes "{\"after\":") (after_text row.after) 9 v (record { clean = refl; few = omega arith }) (after_in_line row.after is.2) in
      let b = then_more (codes "{\"after\":" ++ after_text row.after) (codes ",\"key\":\"") (9 + v) 8 a (record { clean = refl; few = omega arith }) in
      let c = then_more (codes "{\"after\":" ++ after_text row.after ++ codes ",\"key\":\"") (base64 row.key) (9 + v + 8) k b (base64_in_line row.key (key_limit format) is.1.1) in
      let d = then_more (codes "{\"after\":" ++ after_text row.after ++ codes ",\"key\":\"" ++ base64 row.key) (codes "\",\"updated\":\"") (9 + v + 8 + k) 13 c (record { clean = refl; few = omega arith }) in
      let e = then_more (codes "{\"after\":" ++ after_text row.after ++ codes ",\"key\":\"" ++ base64 row.key ++ codes "\",\"updated\":\"") (decimal row.ts) (9 + v + 8 + k + 13) 20 d (number_in_line row.ts small) in
      let f = then_more (codes "{\"after\":" ++ after_text row.after ++ codes ",\"key\":\"" ++ base64 row.key ++ codes "\",\"updated\":\"" ++ decimal row.ts) (codes "\"}") (9 + v + 8 + k + 13 + 20) 2 e (record { clean = refl; few = omega arith }) in
      record { clean = f.clean; few = omega (arith, f.few) }
  text_in_line (messages.Resolved ts) is =
      let small : IsNumber ts = omega (arith, is.1) in
      let a = then_more (codes "{\"resolved\":\"") (decimal ts) 13 20 (record { clean = refl; few = omega arith }) (number_in_line ts small) in
      let b = then_more (codes "{\"resolved\":\"" ++ decimal ts) (codes "\"}") 33 2 a (record { clean = refl; few = omega arith }) in
      record { clean = b.clean; few = omega (arith, b.few) }

  -- the line keeps the limit of lines
  pub message_kept : (m : Message) → IsMessage format m → text_at format (message_line m) ≡ Ok (message_text m)
  message_kept m is = ap (text_at format) (message_ends m) ∙ text_again format (message_text m) (omega (arith, (room format).0, (text_in_line m is).few))

  -- it is the first line where it stands before others
  pub message_first : (m : Message) (rest : List ℕ) → IsMessage format m → lines_of (message_line m ++ rest) ≡ message_line m ∷ lines_of rest
  message_first m rest is =
      ap (λ (x : List ℕ). lines_of (x ++ rest)) (message_ends m) ∙ ap lines_of (append_assoc (message_text m) (10 ∷ []) rest)
      ∙ lines_again (message_text m) rest (text_in_line m is).clean ∙ ap (λ (x : List ℕ). x ∷ lines_of rest) (sym (message_ends m))
