-- Messages and their lines, one to one.
use Rattle.script.proofs.Common.{AllByRecursion, AreBytes, Fails, Follow, Format, IsKey, IsMessage, IsTimestamp, Lacks, Message, base64, bytes_eq-Decides, common_steps, decimal_all, join_with_byte, key_limit, le-leb, leb-true, list_all, list_all-append, lt-ltb, ltb-true, message_line, ne_eqb, slice_split, split_joined, symbols, text_at, value_limit}
use Rattle.std.proofs.Common.{◌≡◌, ℕ, zero, suc, ◌+◌, ◌^◌, ◌<◌, Bool, true, cond, List, [], ◌∷◌, length, get_or, Option, Some, None, Ok, Err, refl, sym, ap, subst, ◌∙◌, append_assoc, arith}
use Rattle.std.specs.Prelude.{codes, decimal, bytes_eq, ◌&&◌, ◌==◌, nat_lt, nat_le, not, option_and_then, replicate}
use Rattle.std.specs.Result.{result_ok}
use Rattle.base64.specs.Rfc4648.{encode_symbols}
use Rattle.base64.specs.Engines.{standard}
use Rattle.base64.specs.GeneralPurpose.{decoded_of}
use Rattle.base64.proofs.EngineFacts.{decode_of-encode_of}
use Rattle.spans.specs.declared.calls.messages.Message.TheVariants as message
use Rattle.script.specs.EventLines.{between, is_lawful, message_of, message_line_at, read_error_of}
use Rattle.json_lines.specs.declared.fault.MessageFault.{MessageFault}
use Rattle.json_lines.specs.declared.fault.MessageFault.TheVariants.{NotJson, Shape, Number, Base64, Length, NoMemory}
use Rattle.json_lines.proofs.NumberWords.{number_only}
use Rattle.word_lines.proofs.SpelledWords.{some_of, chosen}
use Rattle.word_lines.proofs.Spellings.{both}

-- ---- a message in range

bytes_fit : (bytes : List ℕ) → list_all (λ b. nat_lt b 256) bytes ≡ true → AreBytes bytes
bytes_fit [] e = tt
bytes_fit (b ∷ bytes) e = let h = both (nat_lt b 256) (list_all (λ x. nat_lt x 256) bytes) e in (ltb-true b 256 h.0, bytes_fit bytes h.1)

fitting : (bytes : List ℕ) → AreBytes bytes → list_all (λ b. nat_lt b 256) bytes ≡ true
fitting [] fits = refl
fitting (b ∷ bytes) fits = rw (lt-ltb b 256 fits.0) (fitting bytes fits.1)

timestamp_is : (ts : ℕ) → (nat_le 1 ts && nat_le ts 9223372036854775807) ≡ true → IsTimestamp ts
timestamp_is ts e = let h = both (nat_le 1 ts) (nat_le ts 9223372036854775807) e in (leb-true _ _ h.0, leb-true _ _ h.1)

module _ (format : Format) where
  key_is : (key : List ℕ) → ((nat_le 1 (length key) && nat_le (length key) (key_limit format)) && list_all (λ b. nat_lt b 256) key) ≡ true → IsKey format key
  key_is key e =
      let h = both (nat_le 1 (length key) && nat_le (length key) (key_limit format)) (list_all (λ b. nat_lt b 256) key) e in
      let k = both (nat_le 1 (length key)) (nat_le (length key) (key_limit format)) h.0 in
      (leb-true _ _ k.0, leb-true _ _ k.1, bytes_fit key h.1)

  lawful_row : (ts : ℕ) (key : List ℕ) (after : Option (List ℕ)) → is_lawful format (message.Row (record { ts = ts; key = key; after = after })) ≡ true → IsMessage format (message.Row (record { ts = ts; key = key; after = after }))
  lawful_row ts key None e =
      let h = both ((nat_le 1 ts && nat_le ts 9223372036854775807) && ((nat_le 1 (length key) && nat_le (length key) (key_limit format)) && list_all (λ b. nat_lt b 256) key)) true e in
      let k = both (nat_le 1 ts && nat_le ts 9223372036854775807) ((nat_le 1 (length key) && nat_le (length key) (key_limit format)) && list_all (λ b. nat_lt b 256) key) h.0 in
      (timestamp_is ts k.0, key_is key k.1, tt)
  lawful_row ts key (Some value) e =
      let h = both ((nat_le 1 ts && nat_le ts 9223372036854775807) && ((nat_le 1 (length key) && nat_le (length key) (key_limit format)) && list_all (λ b. nat_lt b 256) key)) (nat_le (length value) (value_limit format) && list_all (λ b. nat_lt b 256) value) e in
      let k = both (nat_le 1 ts && nat_le ts 9223372036854775807) ((nat_le 1 (length key) && nat_le (length key) (key_limit format)) && list_all (λ b. nat_lt b 256) key) h.0 in
      let v = both (nat_le (length value) (value_limit format)) (list_all (λ b. nat_lt b 256) value) h.1 in
      (timestamp_is ts k.0, key_is key k.1, (leb-true _ _ v.0, bytes_fit value v.1))

  -- what passes the tests is in range
  lawful_is : (m : Message) → is_lawful format m ≡ true → IsMessage format m
  lawful_is (message.Row row) e = lawful_row row.ts row.key row.after e
  lawful_is (message.Resolved ts) e = timestamp_is ts e

  row_lawful : (ts : ℕ) (key : List ℕ) (after : Option (List ℕ)) → IsMessage format (message.Row (record { ts = ts; key = key; after = after })) → is_lawful format (message.Row (record { ts = ts; key = key; after = after })) ≡ true
  row_lawful ts key None is = rw (le-leb 1 ts is.0.0, le-leb ts 9223372036854775807 is.0.1, le-leb 1 (length key) is.1.0, le-leb (length key) (key_limit format) is.1.1, fitting key is.1.2) refl
  row_lawful ts key (Some value) is =
      rw (le-leb 1 ts is.0.0, le-leb ts 9223372036854775807 is.0.1, le-leb 1 (length key) is.1.0, le-leb (length key) (key_limit format) is.1.1, fitting key is.1.2, le-leb (length value) (value_limit format) is.2.0, fitting value is.2.1) refl

  -- what is in range passes the tests
  is_told : (m : Message) → IsMessage format m → is_lawful format m ≡ true
  is_told (message.Row row) is = row_lawful row.ts row.key row.after is
  is_told (message.Resolved ts) is = rw (le-leb 1 ts is.0, le-leb ts 9223372036854775807 is.1) refl

-- ---- what is read is written so

module _ (format : Format) where
  found_by : (o : Option Message) (line : List ℕ) (m : Message) → option_and_then (λ x. cond (is_lawful format x && bytes_eq (message_line x) line) (some_of x) None) o ≡ some_of m → (line ≡ message_line m) × IsMessage format m
  found_by None line m e = absurd cc
  found_by (Some x) line m e =
      let h = chosen (is_lawful format x && bytes_eq (message_line x) line) x m e in
      let k = both (is_lawful format x) (bytes_eq (message_line x) line) h.0 in
      subst (λ (y : Message). (line ≡ message_line y) × IsMessage format y) h.1 (sym ((bytes_eq-Decides (message_line x) line).0 k.1), lawful_is format x k.0)

  -- what is read as a message is in range, and written so
  pub message_found : (line : List ℕ) (m : Message) → message_of format line ≡ Some m → (line ≡ message_line m) × IsMessage format m
  unfolding message_of
  message_found line m e = found_by (between (slice_split (λ b. b == 34) line)) line m e

-- ---- what is written is read so

abbrev no_quote : ℕ → Bool
no_quote b = not (b == 34)

-- a test that holds of each element, and of 0, holds at each place
at_all : (p : ℕ → Bool) (xs : List ℕ) → list_all p xs ≡ true → p 0 ≡ true → (k : ℕ) → p (get_or xs k 0) ≡ true
at_all p [] e z k = z
at_all p (x ∷ xs) e z zero = (both (p x) (list_all p xs) e).0
at_all p (x ∷ xs) e z (suc k) = at_all p xs (both (p x) (list_all p xs) e).1 z k

-- what holds of the symbols and of the padding holds of all of a text in base64; past the symbols stands 0
symbols_all : (p : ℕ → Bool) → list_all p symbols ≡ true → p 0 ≡ true → (m : List ℕ) → list_all p (encode_symbols symbols m) ≡ true
unfolding encode_symbols
symbols_all p each zeros [] = refl
symbols_all p each zeros (a ∷ []) = rw (at_all p symbols each zeros, at_all p symbols each zeros) refl
symbols_all p each zeros (a ∷ b ∷ []) = rw (at_all p symbols each zeros, at_all p symbols each zeros, at_all p symbols each zeros) refl
symbols_all p each zeros (a ∷ b ∷ c ∷ rest) = rw (at_all p symbols each zeros, at_all p symbols each zeros, at_all p symbols each zeros, at_all p symbols each zeros) (symbols_all p each zeros rest)

pads_all : (p : ℕ → Bool) → p 61 ≡ true → (n : ℕ) → list_all p (replicate n 61) ≡ true
pads_all p pad zero = refl
pads_all p pad (suc n) = rw pad (pads_all p pad n)

pub base64_all : (p : ℕ → Bool) → list_all p symbols ≡ true → p 0 ≡ true → p 61 ≡ true → (bytes : List ℕ) → list_all p (base64 bytes) ≡ true
base64_all p each zeros pad bytes = grind (arith, common_steps, list_all-append, symbols_all, pads_all)

base64_clean : (bytes : List ℕ) → Lacks 34 (base64 bytes)
base64_clean bytes = base64_all no_quote refl refl refl bytes

number_clean : (n : ℕ) → n < 2 ^ 64 → Lacks 34 (decimal n)
number_clean n lt = decimal_all no_quote (λ d small. ap not (ne_eqb (48 + d) 34 (λ e. absurd (omega (arith, e))))) n lt

byte_at : (bytes : List ℕ) → AreBytes bytes → (i : ℕ) → get_or bytes i 0 < 256
byte_at [] fits i = omega arith
byte_at (b ∷ bytes) fits zero = fits.0
byte_at (b ∷ bytes) fits (suc i) = byte_at bytes fits.1 i

-- base64 is read back
decoded_again : (bytes : List ℕ) → AreBytes bytes → decoded_of standard (base64 bytes) ≡ Some bytes
unfolding decoded_of
decoded_again bytes fits = ap result_ok (decode_of-encode_of standard bytes refl (byte_at bytes fits))

-- the pieces between the quotes of a resolved message
resolved_pieces : (ts : ℕ) → ts < 2 ^ 64 → slice_split (λ b. b == 34) (message_line (message.Resolved ts)) ≡ codes "{" ∷ codes "resolved" ∷ codes ":" ∷ decimal ts ∷ codes "}\n" ∷ []
unfolding message_line
resolved_pieces ts lt = split_joined 34 (codes "{" ∷ codes "resolved" ∷ codes ":" ∷ decimal ts ∷ codes "}\n" ∷ []) (omega arith) (refl, (refl, (refl, (number_clean ts lt, (refl, tt)))))

-- the pieces of a row's line behind its value
abbrev tail_of : ℕ → List ℕ → List (List ℕ)
tail_of ts key = codes "key" ∷ codes ":" ∷ base64 key ∷ codes "," ∷ codes "updated" ∷ codes ":" ∷ decimal ts ∷ codes "}\n" ∷ []

tail_clean : (ts : ℕ) (key : List ℕ) → ts < 2 ^ 64 → AllByRecursion (Lacks 34) (tail_of ts key)
tail_clean ts key lt = (refl, (refl, (base64_clean key, (refl, (refl, (refl, (number_clean ts lt, (refl, tt))))))))

-- a row's line is its pieces with a quote between two
delete_line : (ts : ℕ) (key : List ℕ) → message_line (message.Row (record { ts = ts; key = key; after = None })) ≡ join_with_byte 34 (codes "{" ∷ codes "after" ∷ codes ":null," ∷ tail_of ts key)
unfolding message_line
delete_line ts key = simp append_assoc

write_line : (ts : ℕ) (key value : List ℕ) → message_line (message.Row (record { ts = ts; key = key; after = Some value })) ≡ join_with_byte 34 (codes "{" ∷ codes "after" ∷ codes ":" ∷ base64 value ∷ codes "," ∷ tail_of ts key)
unfolding message_line
write_line ts key value = simp append_assoc

module _ (format : Format) where
  between_row : (ts : ℕ) (key : List ℕ) (after : Option (List ℕ)) → IsMessage format (message.Row (record { ts = ts; key = key; after = after }))
      → between (slice_split (λ b. b == 34) (message_line (message.Row (record { ts = ts; key = key; after = after })))) ≡ Some (message.Row (record { ts = ts; key = key; after = after }))
  between_row ts key None is =
      let small : ts < 2 ^ 64 = omega (arith, is.0.1) in
      let parts = codes "{" ∷ codes "after" ∷ codes ":null," ∷ tail_of ts key in
      ap (λ (x : List ℕ). between (slice_split (λ b. b == 34) x)) (delete_line ts key) ∙ ap between (split_joined 34 parts (omega arith) (refl, (refl, (refl, tail_clean ts key small))))
      ∙ rw (decoded_again key is.1.2, number_only ts small) refl
  between_row ts key (Some value) is =
      let small : ts < 2 ^ 64 = omega (arith, is.0.1) in
      let parts = codes "{" ∷ codes "after" ∷ codes ":" ∷ base64 value ∷ codes "," ∷ tail_of ts key in
      ap (λ (x : List ℕ). between (slice_split (λ b. b == 34) x)) (write_line ts key value) ∙ ap between (split_joined 34 parts (omega arith) (refl, (refl, (refl, (base64_clean value, (refl, tail_clean ts key small))))))
      ∙ rw (decoded_again value is.2.1, decoded_again key is.1.2, number_only ts small) refl

  -- what stands between the quotes is the message
  between_line : (m : Message) → IsMessage format m → between (slice_split (λ b. b == 34) (message_line m)) ≡ Some m
  between_line (message.Row row) is = between_row row.ts row.key row.after is
  between_line (message.Resolved ts) is =
      let small : ts < 2 ^ 64 = omega (arith, is.1) in
      ap between (resolved_pieces ts small) ∙ rw (number_only ts small) refl

  -- what is written of a message in range is read so
  pub message_only : (m : Message) → IsMessage format m → message_of format (message_line m) ≡ Some m
  unfolding message_of
  message_only m is = rw (between_line m is, is_told format m is, (bytes_eq-Decides (message_line m) (message_line m)).1 refl) refl

-- ---- lines of messages

option_none : (o : Option Message) → ((m : Message) → o ≡ Some m → ⊥) → o ≡ None
option_none None never = refl
option_none (Some m) never = absurd (never m refl)

module _ (format : Format) where
  -- a line that is a message's is read so
  pub message_told : (line text : List ℕ) (m : Message) → text_at format line ≡ Ok text → (line ≡ message_line m) × IsMessage format m → message_line_at format line ≡ Ok m
  unfolding message_line_at
  message_told line text m e is = rw (e, ap (message_of format) is.0 ∙ message_only format m is.1) refl

  -- a line of which no message has that line
  no_message : (line text : List ℕ) → text_at format line ≡ Ok text → ((m : Message) → IsMessage format m → line ≡ message_line m → ⊥) → message_line_at format line ≡ Err Follow
  unfolding message_line_at
  no_message line text e never = rw (e, option_none (message_of format line) (λ m is. let f = message_found format line m is in never m f.1 f.0)) refl

  -- a line that is no message's is faulty
  pub message_refused : (fault : MessageFault) (line text : List ℕ) → text_at format line ≡ Ok text → ((m : Message) → IsMessage format m → line ≡ message_line m → fault ≡ NoMemory) → Fails (read_error_of fault) (message_line_at format line)
  message_refused NoMemory line text e whole = tt
  message_refused NotJson line text e whole = no_message line text e (λ m is same. let out : NotJson ≡ NoMemory = whole m is same in cc)
  message_refused Shape line text e whole = no_message line text e (λ m is same. let out : Shape ≡ NoMemory = whole m is same in cc)
  message_refused Number line text e whole = no_message line text e (λ m is same. let out : Number ≡ NoMemory = whole m is same in cc)
  message_refused Base64 line text e whole = no_message line text e (λ m is same. let out : Base64 ≡ NoMemory = whole m is same in cc)
  message_refused Length line text e whole = no_message line text e (λ m is same. let out : Length ≡ NoMemory = whole m is same in cc)
