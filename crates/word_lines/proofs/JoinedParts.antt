-- What was joined or ended by a byte is cut there again.
use Rattle.word_lines.proofs.Common.{All, AllByRecursion, Format, common_steps, decimal_by_steps, eq-eqb, join_with_byte, le-leb, line_limit, list_all, list_all-append, list_any, ne_eqb, slice_split, slice_split_at, slice_split_none}
use Rattle.std.proofs.Common.{rules, ◌≡◌, ℕ, ◌+◌, ◌-◌, ◌%◌, ◌^◌, ◌<◌, ◌≤◌, Bool, true, false, List, [], ◌∷◌, ◌++◌, length, Ok, refl, ap, ◌∙◌, arith}
use Rattle.std.specs.Prelude.{decimal, not, ◌&&◌, ◌==◌, nat_le}
use Rattle.std.proofs.lemmas.List.Elements.{All-from_recursion}
use Rattle.word_lines.specs.Events.{joined}
use Rattle.word_lines.specs.Words.{is_printable, is_empty, text_at, words_at}
use Rattle.word_lines.proofs.Spellings.{both}
use Rattle.word_lines.proofs.Splitting.{words_good}

-- the byte c isn't among the bytes
abbrev pub Lacks : ℕ → List ℕ → Type 0
Lacks c bytes = list_all (λ b. not (b == c)) bytes ≡ true

-- not so is false
pub is_false : (b : Bool) → not b ≡ true → b ≡ false
is_false true e = absurd cc
is_false false e = refl

lacks_each : (c : ℕ) (bytes : List ℕ) → Lacks c bytes → AllByRecursion (λ b. (b == c) ≡ false) bytes
lacks_each c [] e = tt
lacks_each c (b ∷ bytes) e = let h = both (not (b == c)) (list_all (λ x. not (x == c)) bytes) e in (is_false (b == c) h.0, lacks_each c bytes h.1)

lacks_all : (c : ℕ) (bytes : List ℕ) → Lacks c bytes → All (λ b. (b == c) ≡ false) bytes
lacks_all c bytes e = All-from_recursion (λ b. (b == c) ≡ false) bytes (lacks_each c bytes e)

-- parts that were joined by a byte that none of them has
pub split_joined : (c : ℕ) (parts : List (List ℕ)) → 0 < length parts → AllByRecursion (Lacks c) parts → slice_split (λ b. b == c) (join_with_byte c parts) ≡ parts
split_joined c [] some lack = absurd (omega arith)
split_joined c (part ∷ []) some lack = slice_split_none (λ b. b == c) part (lacks_all c part lack.0)
split_joined c (part ∷ next ∷ parts) some lack = grind (arith, common_steps, slice_split_at, lacks_all, eq-eqb, split_joined c (next ∷ parts))

-- a test that holds of each digit holds of all of a number word
pub decimal_all : (p : ℕ → Bool) → ((d : ℕ) → d < 10 → p (48 + d) ≡ true) → (n : ℕ) → n < 2 ^ 64 → list_all p (decimal n) ≡ true
decimal_all p digit n lt =
    decimal_by_steps (λ _ ds. list_all p ds ≡ true) (λ d small. rw (digit d small) refl)
    (λ m ds large so_far. list_all-append p ds ((48 + m % 10) ∷ []) ∙ rw (so_far, digit (m % 10) (omega arith)) refl) n lt

-- ---- words

-- `!` to `~`
abbrev pub is_graphic : ℕ → Bool
is_graphic b = nat_le 33 b && nat_le b 126

-- a word has bytes, and none of them is a space
abbrev pub IsWord : List ℕ → Type 0
IsWord word = (0 < length word) × (list_all is_graphic word ≡ true)

-- what follows from being `!` to `~`
weaker : (p : ℕ → Bool) → ((b : ℕ) → 33 ≤ b → b ≤ 126 → p b ≡ true) → (word : List ℕ) → list_all is_graphic word ≡ true → list_all p word ≡ true
weaker p each [] e = refl
weaker p each (b ∷ word) e = grind (arith, common_steps, weaker p each word)

-- a word has no space
lacks_space : (word : List ℕ) → IsWord word → Lacks 32 word
lacks_space word is = weaker (λ b. not (b == 32)) (λ b low high. ap not (ne_eqb b 32 (λ e. absurd (omega (arith, e))))) word is.1

printable : (word : List ℕ) → IsWord word → list_all is_printable word ≡ true
printable word is = weaker is_printable (λ b low high. rw (le-leb 32 b (omega arith), le-leb b 126 high) refl) word is.1

all_lack : (ws : List (List ℕ)) → AllByRecursion IsWord ws → AllByRecursion (Lacks 32) ws
all_lack [] is = tt
all_lack (w ∷ ws) is = (lacks_space w is.0, all_lack ws is.1)

-- no word is empty
none_empty : (ws : List (List ℕ)) → AllByRecursion IsWord ws → list_any is_empty ws ≡ false
none_empty [] is = refl
none_empty (w ∷ ws) is = rw (ne_eqb (length w) 0 (λ e. absurd (omega (arith, e, is.0.0)))) (none_empty ws is.1)

-- words and the spaces between them are printable
pub joined_printable : (ws : List (List ℕ)) → AllByRecursion IsWord ws → list_all is_printable (joined ws) ≡ true
joined_printable [] is = refl
joined_printable (w ∷ []) is = printable w is.0
joined_printable (w ∷ next ∷ ws) is = list_all-append is_printable w (32 ∷ joined (next ∷ ws)) ∙ rw (printable w is.0) (joined_printable (next ∷ ws) is.1)

-- words that were joined
pub words_again : (ws : List (List ℕ)) → 0 < length ws → AllByRecursion IsWord ws → words_at (joined ws) ≡ Ok ws
words_again ws some is = search (split_joined, all_lack, words_good, joined_printable, none_empty, rules, arith)

-- ---- a line

-- a text that was ended by a newline
pub text_again : (format : Format) (text : List ℕ) → length text ≤ line_limit format → text_at format (text ++ 10 ∷ []) ≡ Ok text
unfolding text_at
text_again format text short = grind (arith, common_steps)
