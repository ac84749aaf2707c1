-- The line of a message passes the tests of lines, and has that message.
use Rattle.std.proofs.Common.{◌≡◌, ℕ, ◌+◌, ◌*◌, ◌/◌, ◌%◌, ◌^◌, ◌<◌, ◌≤◌, Bool, true, cond, List, [], ◌∷◌, ◌++◌, get_or, Option, Some, None, Result, Ok, Err, refl, sym, ap, ◌∙◌, subst, append_assoc, arith}
use Rattle.std.specs.Prelude.{◌&&◌, ◌==◌, not, nat_le, nat_lt, bytes_eq, codes, decimal, option_map, option_and_then}
use Rattle.follow.proofs.Common.{AreBytes, Format, IsAfter, IsMessage, Message, MessageFault, after_at, base64, list_all, meant_by, message_at, message_line, resolved_in, row_in, symbols, texts_in, tree_of}
use Rattle.std.proofs.lemmas.Bool.Decides.{nat_tests}
use Rattle.std.proofs.lemmas.Bool.{and_parts}
use Rattle.std.proofs.lemmas.List.Folds.{list_all_at}
use Rattle.std.proofs.lemmas.Slice.Eq.{bytes_eq-Decides}
use Rattle.json.specs.Token as token
use Rattle.json.specs.Lex.{Lexeme, token, comma, colon, string_token, lex, between, punctuate, fresh}
use Rattle.json.specs.Text.{content}
use Rattle.json.specs.Word.{word}
use Rattle.json.specs.Json as json
use Rattle.json.specs.Print.{escape}
use Rattle.json.proofs.Printed.Strings.{content-escape, lex-escape, escape_byte_plain}
use Rattle.json.proofs.Printed.Utf8.{are_ascii, IsUtf8-are_ascii}
use Rattle.serde_json.specs.Data.{Data, null, string, object, member, no_members}
use Rattle.serde_json.specs.Read.{of_json, read}
use Rattle.timestamps.specs.declared.row.Row.{Row}
use Rattle.spans.specs.declared.calls.messages.Message.TheVariants as message
use Rattle.json_lines.specs.declared.fault.MessageFault.TheVariants.{Shape}
use Rattle.json_lines.specs.Meaning.{message_of, ◌>>=◌, Texts, resolved, row, texts_of}
use Rattle.json_lines.specs.Tests.{text_at}
use Rattle.json_lines.proofs.Base64.{base64_none, base64_one, base64_two, base64_three}
use Rattle.json_lines.proofs.Meanings.{message_again}
use Rattle.json_lines.proofs.Trees.{tree_good}
use Rattle.json_lines.proofs.WrittenLines.{texts_line, line_of_texts}
use Rattle.word_lines.proofs.JoinedParts.{decimal_all}

-- ---- bytes that stand for themselves in a string of JSON

abbrev is_plain : ℕ → Bool
is_plain b = nat_le 32 b && (nat_lt b 128 && (not (b == 34) && not (b == 92)))

abbrev ArePlain : List ℕ → Type 0
ArePlain bytes = list_all is_plain bytes ≡ true

plain_at : (b : ℕ) → is_plain b ≡ true → (32 ≤ b) × (nat_lt b 128 ≡ true) × (b ≡ 34 → ⊥) × (b ≡ 92 → ⊥)
plain_at b is = grind (arith, nat_tests)

escape_plain : (s : List ℕ) → ArePlain s → escape s ≡ s
escape_plain [] are = refl
escape_plain (b ∷ s) are =
    let h = and_parts (is_plain b) (list_all is_plain s) are in let p = plain_at b h.0 in
    λ i. escape_byte_plain b p.2 p.3 p.0 i ++ escape_plain s h.1 i

lex_plain : (s rest : List ℕ) → ArePlain s → lex between (34 ∷ (s ++ 34 ∷ rest)) ≡ token (token.string s) ∷ lex between rest
unfolding lex
lex_plain s rest are =
    subst (λ (t : List ℕ). lex between (34 ∷ (t ++ 34 ∷ rest)) ≡ token (token.string s) ∷ lex between rest) (escape_plain s are) (λ i. token (string_token (content-escape s rest i)) ∷ lex-escape s rest i)

ascii_plain : (s rest : List ℕ) → ArePlain s → are_ascii (s ++ rest) ≡ are_ascii rest
ascii_plain [] rest are = refl
ascii_plain (b ∷ s) rest are =
    let h = and_parts (is_plain b) (list_all is_plain s) are in rw (plain_at b h.0).1 (ascii_plain s rest h.1)

-- ---- number words and base64 are such bytes

decimal_plain : (n : ℕ) → n < 2 ^ 64 → ArePlain (decimal n)
decimal_plain n small = decimal_all is_plain (λ d low. grind (arith, nat_tests)) n small

symbol_plain : (k : ℕ) → k < 64 → is_plain (get_or symbols k 0) ≡ true
symbol_plain k low = grind (arith, list_all_at is_plain symbols k 0)

base64_plain : (bytes : List ℕ) → AreBytes bytes → ArePlain (base64 bytes)
base64_plain [] are = rw base64_none refl
base64_plain (a ∷ []) are = let x : a < 256 = are.0 in rw (base64_one, symbol_plain (a / 4) (omega arith), symbol_plain (a % 4 * 16) (omega arith)) refl
base64_plain (a ∷ b ∷ []) are = let x : a < 256 = are.0 in let y : b < 256 = are.1.0 in
    rw (base64_two, symbol_plain (a / 4) (omega arith), symbol_plain (a % 4 * 16 + b / 16) (omega arith), symbol_plain (b % 16 * 4) (omega arith)) refl
base64_plain (a ∷ b ∷ c ∷ rest) are = let x : a < 256 = are.0 in let y : b < 256 = are.1.0 in let z : c < 256 = are.1.1.0 in
    rw (base64_three, symbol_plain (a / 4) (omega arith), symbol_plain (a % 4 * 16 + b / 16) (omega arith), symbol_plain (b % 16 * 4 + c / 64) (omega arith), symbol_plain (c % 64) (omega arith)) (base64_plain rest are.1.1.1)

-- ---- the line of texts is UTF-8, and is read as JSON

abbrev AreAscii : List ℕ → Type 0
AreAscii line = are_ascii line ≡ true

abbrev read_lexemes : List Lexeme → Option Data
read_lexemes ls = option_and_then of_json (option_and_then (λ p. json.if_last p.0 p.1) (json.value 127 (punctuate fresh ls)))

-- what a line of these texts is in JSON
abbrev data_of : Texts → Data
data_of (resolved ts) = object (member (codes "resolved") (string ts) no_members)
data_of (row None key updated) = object (member (codes "after") null (member (codes "key") (string key) (member (codes "updated") (string updated) no_members)))
data_of (row (Some after) key updated) = object (member (codes "after") (string after) (member (codes "key") (string key) (member (codes "updated") (string updated) no_members)))

abbrev AllPlain : Texts → Type 0
AllPlain (resolved ts) = ArePlain ts
AllPlain (row None key updated) = ArePlain key × ArePlain updated
AllPlain (row (Some after) key updated) = ArePlain after × ArePlain key × ArePlain updated

-- behind a row's value
abbrev line_behind : List ℕ → List ℕ → List ℕ
line_behind key updated = codes ",\"key\":\"" ++ (key ++ (codes "\",\"updated\":\"" ++ (updated ++ codes "\"}\n")))

lex_behind : (key updated : List ℕ) → ArePlain key → ArePlain updated
    → lex between (line_behind key updated) ≡ comma ∷ token (token.string (codes "key")) ∷ colon ∷ token (token.string key) ∷ comma ∷ token (token.string (codes "updated")) ∷ colon ∷ token (token.string updated) ∷ token token.end_object ∷ []
unfolding lex content
lex_behind key updated k u =
    ap (λ (ls : List Lexeme). comma ∷ token (token.string (codes "key")) ∷ colon ∷ ls)
    (lex_plain key (codes ",\"updated\":\"" ++ (updated ++ codes "\"}\n")) k ∙ ap (λ (ls : List Lexeme). token (token.string key) ∷ comma ∷ token (token.string (codes "updated")) ∷ colon ∷ ls) (lex_plain updated (codes "}\n") u))

read_texts : (t : Texts) → AllPlain t → AreAscii (texts_line t) × (read (texts_line t) ≡ Some (data_of t))
unfolding lex content punctuate json.value json.members json.items word
read_texts (resolved ts) p = (ascii_plain ts (codes "\"}\n") p, ap (λ (ls : List Lexeme). read_lexemes (token token.begin_object ∷ token (token.string (codes "resolved")) ∷ colon ∷ ls)) (lex_plain ts (codes "}\n") p))
read_texts (row None key updated) p = (
  ascii_plain key (codes "\",\"updated\":\"" ++ (updated ++ codes "\"}\n")) p.0 ∙ ascii_plain updated (codes "\"}\n") p.1,
  ap (λ (ls : List Lexeme). read_lexemes (token token.begin_object ∷ token (token.string (codes "after")) ∷ colon ∷ token token.null ∷ ls)) (lex_behind key updated p.0 p.1),
)
read_texts (row (Some after) key updated) p =
    let behind = line_behind key updated in
    subst (λ (x : List ℕ). AreAscii (codes "{\"after\":\"" ++ x) × (read (codes "{\"after\":\"" ++ x) ≡ Some (data_of (row (Some after) key updated)))) (sym (append_assoc after (codes "\"") behind)) (
      ascii_plain after (codes "\"" ++ behind) p.0 ∙ (ascii_plain key (codes "\",\"updated\":\"" ++ (updated ++ codes "\"}\n")) p.1 ∙ ascii_plain updated (codes "\"}\n") p.2),
      ap (λ (ls : List Lexeme). read_lexemes (token token.begin_object ∷ token (token.string (codes "after")) ∷ colon ∷ ls)) (lex_plain after behind p.0 ∙ ap (λ (ls : List Lexeme). token (token.string after) ∷ ls) (lex_behind key updated p.1 p.2)),
    )

texts_again : (t : Texts) → texts_in (data_of t) ≡ Ok t
unfolding texts_in resolved_in row_in after_at text_at
texts_again (resolved ts) = refl
texts_again (row None key updated) = refl
texts_again (row (Some after) key updated) = refl

-- ---- the message

texts_plain : (format : Format) (m : Message) → IsMessage format m → AllPlain (texts_of m)
texts_plain format (message.Resolved ts) is = decimal_plain ts (omega (arith, is.1))
texts_plain format (message.Row r) is = by_after r.after is.2
  where
    by_after : (after : Option (List ℕ)) → IsAfter format after → AllPlain (row (option_map base64 after) (base64 r.key) (decimal r.ts))
    by_after None a = (base64_plain r.key is.1.2, decimal_plain r.ts (omega (arith, is.0.1)))
    by_after (Some value) a = (base64_plain value a.1, base64_plain r.key is.1.2, decimal_plain r.ts (omega (arith, is.0.1)))

-- the line of a message of the format is read as that message
pub line_is_message : (format : Format) (m : Message) → IsMessage format m → message_at format (message_line m) ≡ Ok m
unfolding message_at meant_by
line_is_message format m is =
    let t = texts_of m in let r = read_texts t (texts_plain format m is) in
    let meant : meant_by format (message_line m) ≡ Ok m =
    ap (λ (x : List ℕ). tree_of x >>= λ d. texts_in d >>= λ y. message_of format y) (line_of_texts m)
    ∙ (ap (λ (d : Result Data MessageFault). d >>= λ d. texts_in d >>= λ y. message_of format y) (tree_good (texts_line t) (data_of t) (IsUtf8-are_ascii (texts_line t) r.0) r.1)
    ∙ (ap (λ (y : Result Texts MessageFault). y >>= λ y. message_of format y) (texts_again t) ∙ message_again format m is)) in
    ap (λ (x : Result Message MessageFault). x >>= λ x. cond (bytes_eq (message_line m) (message_line x)) (Ok x) (Err Shape)) meant
    ∙ ap (λ (b : Bool). cond b (Ok m) (Err Shape)) ((bytes_eq-Decides (message_line m) (message_line m)).1 refl)
