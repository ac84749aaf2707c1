-- A written line is taken apart into the texts that it was made of.
use Rattle.json_lines.proofs.Common.{Format, Message, common_steps}
use Rattle.std.proofs.Common.{◌≡◌, ℕ, ◌^◌, ◌<◌, ◌⊎◌, inl, inr, cond, List, ◌∷◌, ◌++◌, Option, Some, None, Result, Ok, Err, refl, ap, ◌∙◌, append_assoc, arith}
use Rattle.std.specs.Prelude.{codes, decimal, bytes_eq, option_map, not}
use Rattle.std.proofs.lemmas.Slice.Eq.{bytes_eq-Decides}
use Rattle.spans.specs.declared.calls.messages.Message.TheVariants as message
use Rattle.json_lines.specs.declared.fault.MessageFault.{MessageFault}
use Rattle.json_lines.specs.declared.fault.MessageFault.TheVariants.{Shape}
use Rattle.json_lines.specs.Messages.{base64, message_line, IsMessage}
use Rattle.json_lines.specs.Meaning.{Texts, resolved, row, texts_of, ◌>>=◌}
use Rattle.json_lines.specs.Written.{is_quote, behind, quoted, otherwise, last_text, text_at_front, null_at_front, after_at_front, resolved_written, row_written, texts_written}
use Rattle.json_lines.proofs.Base64.{base64_all}
use Rattle.json_lines.proofs.NumberWords.{decimal_all}
use Rattle.json_lines.proofs.Steps.{bind_ok, guarded, ok_is}
use Rattle.json_lines.proofs.Quotes.{behind_found, quoted_found, quoted_again, HasNoQuote}

-- ---- the line of texts

-- a text in quotes, or `null`
abbrev pub after_line : Option (List ℕ) → List ℕ
after_line None = codes "null"
after_line (Some text) = codes "\"" ++ text ++ codes "\""

-- the texts between what stands round them
abbrev pub texts_line : Texts → List ℕ
texts_line (resolved ts) = codes "{\"resolved\":\"" ++ (ts ++ codes "\"}\n")
texts_line (row after key updated) = codes "{\"after\":" ++ (after_line after ++ (codes ",\"key\":\"" ++ (key ++ (codes "\",\"updated\":\"" ++ (updated ++ codes "\"}\n")))))

-- a message's line is that of its texts
pub line_of_texts : (m : Message) → message_line m ≡ texts_line (texts_of m)
unfolding message_line
line_of_texts (message.Resolved ts) = append_assoc (codes "{\"resolved\":\"") (decimal ts) (codes "\"}\n")
line_of_texts (message.Row r) = grind (arith, common_steps)

-- ---- what is taken apart was put together so

last_found : (bytes text : List ℕ) → last_text bytes ≡ Ok text → bytes ≡ text ++ codes "\"}\n"
unfolding last_text
last_found bytes text e = grind (arith, common_steps, bind_ok, guarded, bytes_eq-Decides, quoted_found, ok_is)

null_found : (bytes : List ℕ) (x : Option (List ℕ) × List ℕ) → null_at_front bytes ≡ Ok x → bytes ≡ after_line x.0 ++ x.1
unfolding null_at_front
null_found bytes x e = grind (arith, common_steps)

text_found : (bytes : List ℕ) (x : Option (List ℕ) × List ℕ) → text_at_front bytes ≡ Ok x → bytes ≡ after_line x.0 ++ x.1
unfolding text_at_front
text_found bytes x e = grind (arith, common_steps, bind_ok, ok_is, behind_found, quoted_found)

-- which of two ways did not fail
either : {A : Type 0} (first second : Result A MessageFault) (x : A) → otherwise first second ≡ Ok x → (first ≡ Ok x) ⊎ (second ≡ Ok x)
either (Ok y) second x e = inl e
either (Err d) second x e = inr e

after_found : (bytes : List ℕ) (x : Option (List ℕ) × List ℕ) → after_at_front bytes ≡ Ok x → bytes ≡ after_line x.0 ++ x.1
unfolding after_at_front
after_found bytes x e = grind (arith, common_steps, either, null_found, text_found)

resolved_found : (line : List ℕ) (t : Texts) → resolved_written line ≡ Ok t → line ≡ texts_line t
unfolding resolved_written
resolved_found line t e = grind (arith, common_steps, bind_ok, behind_found, last_found, ok_is)

row_found : (line : List ℕ) (t : Texts) → row_written line ≡ Ok t → line ≡ texts_line t
unfolding row_written
row_found line t e =
    let front = bind_ok (behind (codes "{\"after\":") line) _ t e in
    let after = bind_ok (after_at_front front.0) _ t front.2 in
    let middle = bind_ok (behind (codes ",\"key\":\"") after.0.1) _ t after.2 in
    let key = bind_ok (quoted middle.0) _ t middle.2 in
    let back = bind_ok (behind (codes ",\"updated\":\"") key.0.1) _ t key.2 in
    let updated = bind_ok (last_text back.0) _ t back.2 in
    behind_found (codes "{\"after\":") line front.0 front.1
    ∙ ap (λ (x : List ℕ). codes "{\"after\":" ++ x) (after_found front.0 after.0 after.1)
    ∙ ap (λ (x : List ℕ). codes "{\"after\":" ++ (after_line after.0.0 ++ x)) (behind_found (codes ",\"key\":\"") after.0.1 middle.0 middle.1)
    ∙ ap (λ (x : List ℕ). codes "{\"after\":" ++ (after_line after.0.0 ++ (codes ",\"key\":\"" ++ x))) (quoted_found middle.0 key.0 key.1)
    ∙ ap (λ (x : List ℕ). codes "{\"after\":" ++ (after_line after.0.0 ++ (codes ",\"key\":\"" ++ (key.0.0 ++ 34 ∷ x)))) (behind_found (codes ",\"updated\":\"") key.0.1 back.0 back.1)
    ∙ ap (λ (x : List ℕ). codes "{\"after\":" ++ (after_line after.0.0 ++ (codes ",\"key\":\"" ++ (key.0.0 ++ (codes "\",\"updated\":\"" ++ x))))) (last_found back.0 updated.0 updated.1)
    ∙ ap texts_line (ok_is (row after.0.0 key.0.0 updated.0) t updated.2)

-- what is taken apart is the line of its texts
pub written_found : (line : List ℕ) (t : Texts) → texts_written line ≡ Ok t → line ≡ texts_line t
unfolding texts_written
written_found line t e = grind (arith, common_steps, either, resolved_found, row_found)

-- ---- no written text has a quote

base64_no_quote : (bytes : List ℕ) → HasNoQuote (base64 bytes)
base64_no_quote bytes = base64_all (λ b. not (is_quote b)) refl refl refl bytes

number_no_quote : (n : ℕ) → n < 2 ^ 64 → HasNoQuote (decimal n)
number_no_quote n lt = decimal_all (λ b. not (is_quote b)) (λ c digit. grind (arith, common_steps)) n lt

abbrev AfterHasNoQuote : Option (List ℕ) → Type 0
AfterHasNoQuote None = Unit {0}
AfterHasNoQuote (Some text) = HasNoQuote text

value_no_quote : (after : Option (List ℕ)) → AfterHasNoQuote (option_map base64 after)
value_no_quote after = grind (arith, common_steps, base64_no_quote)

-- ---- what was put together is taken apart again

last_again : (text : List ℕ) → HasNoQuote text → last_text (text ++ codes "\"}\n") ≡ Ok text
unfolding last_text
last_again text none = ap (λ (r : Result (List ℕ × List ℕ) MessageFault). r >>= λ p. cond (bytes_eq p.1 (codes "}\n")) (Ok p.0) (Err Shape)) (quoted_again text (codes "}\n") none)

after_again : (after : Option (List ℕ)) (rest : List ℕ) → AfterHasNoQuote after → after_at_front (after_line after ++ rest) ≡ Ok (after, rest)
unfolding after_at_front null_at_front text_at_front
after_again None rest none = refl
after_again (Some text) rest none = grind (arith, common_steps, quoted_again)

resolved_again : (ts : List ℕ) → HasNoQuote ts → texts_written (texts_line (resolved ts)) ≡ Ok (resolved ts)
unfolding texts_written resolved_written
resolved_again ts none = ap (λ (r : Result (List ℕ) MessageFault). otherwise (r >>= λ t. Ok (resolved t)) (row_written (texts_line (resolved ts)))) (last_again ts none)

row_again : (after : Option (List ℕ)) (key updated : List ℕ) → AfterHasNoQuote after → HasNoQuote key → HasNoQuote updated → texts_written (texts_line (row after key updated)) ≡ Ok (row after key updated)
unfolding texts_written resolved_written row_written
row_again after key updated a k u = grind (arith, common_steps, after_again, quoted_again, last_again)

-- a message's line is taken apart into its texts
pub written_again : (format : Format) (m : Message) → IsMessage format m → texts_written (message_line m) ≡ Ok (texts_of m)
written_again format (message.Resolved ts) lawful =
    ap texts_written (line_of_texts (message.Resolved ts)) ∙ resolved_again (decimal ts) (number_no_quote ts (omega arith))
written_again format (message.Row r) lawful =
    ap texts_written (line_of_texts (message.Row r)) ∙ row_again (option_map base64 r.after) (base64 r.key) (decimal r.ts) (value_no_quote r.after) (base64_no_quote r.key) (number_no_quote r.ts (omega arith))
