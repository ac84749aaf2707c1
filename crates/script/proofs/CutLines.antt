-- The lines of a text, one by one.
use Rattle.script.proofs.Common.{AllByRecursion, IsWord, Lacks, common_steps, concat, eqb-true, is_printable, joined, joined_printable, list_all, ne_eqb, nil_from_length, onto_first, place_cases, position_or_len}
use Rattle.std.proofs.Common.{rules, ◌≡◌, ℕ, suc, ◌+◌, ◌<◌, ◌≤◌, Bool, true, false, cond, List, [], ◌∷◌, ◌++◌, length, take, drop, Some, None, refl, sym, ap, ◌∙◌, arith}
use Rattle.std.specs.Prelude.{◌==◌, position}
use Rattle.std.proofs.lemmas.List.Recursion.{is_position_or_len}
use Rattle.script.specs.EventLines.{is_newline, lines_of}

-- how many bytes stand before the first newline
abbrev before_newline : List ℕ → ℕ
before_newline [] = 0
before_newline (b ∷ text) = cond (is_newline b) 0 (suc (before_newline text))

before_newline_is : (text : List ℕ) → before_newline text ≡ position_or_len is_newline text
before_newline_is text = is_position_or_len before_newline is_newline refl (λ b text. ap (λ (n : ℕ). cond (is_newline b) 0 n) (omega arith)) text

alone_step : (s : Bool) (b : ℕ) (text : List ℕ) → (length text ≤ before_newline text → 0 < length text → lines_of text ≡ text ∷ []) → length (b ∷ text) ≤ cond s 0 (suc (before_newline text)) → cond s ((b ∷ []) ∷ lines_of text) (onto_first b (lines_of text)) ≡ (b ∷ text) ∷ []
unfolding lines_of
alone_step true b text ih long = absurd (omega arith)
alone_step false b [] ih long = refl
alone_step false b (c ∷ text) ih long = ap (onto_first b) (ih (omega arith) (omega arith))

-- a text with no newline is one line
alone : (text : List ℕ) → length text ≤ before_newline text → 0 < length text → lines_of text ≡ text ∷ []
unfolding lines_of
alone [] long some = absurd (omega arith)
alone (b ∷ text) long some = alone_step (is_newline b) b text (alone text) long

first_step : (s : Bool) (b : ℕ) (text : List ℕ) → (before_newline text < length text → lines_of text ≡ take (suc (before_newline text)) text ∷ lines_of (drop (suc (before_newline text)) text)) → cond s 0 (suc (before_newline text)) < length (b ∷ text)
    → cond s ((b ∷ []) ∷ lines_of text) (onto_first b (lines_of text)) ≡ take (suc (cond s 0 (suc (before_newline text)))) (b ∷ text) ∷ lines_of (drop (suc (cond s 0 (suc (before_newline text)))) (b ∷ text))
unfolding lines_of
first_step true b text ih lt = refl
first_step false b text ih lt = ap (onto_first b) (ih (omega arith))

-- the first line ends behind the first newline
first_ends : (text : List ℕ) → before_newline text < length text → lines_of text ≡ take (suc (before_newline text)) text ∷ lines_of (drop (suc (before_newline text)) text)
unfolding lines_of
first_ends [] lt = absurd (omega arith)
first_ends (b ∷ text) lt = first_step (is_newline b) b text (first_ends text) lt

-- where there is no newline
pub lines_alone : (text : List ℕ) → 0 < length text → None ≡ position is_newline text → lines_of text ≡ text ∷ lines_of []
unfolding lines_of
lines_alone text some none = grind (arith, common_steps, place_cases, alone, before_newline_is)

-- where there is one
pub lines_first : (text : List ℕ) (at : ℕ) → Some at ≡ position is_newline text → lines_of text ≡ take (at + 1) text ∷ lines_of (drop (at + 1) text)
lines_first text at found = search (place_cases, before_newline_is, first_ends, rules, arith)

none_more : {A : Type 0} (x : A) (xs : List A) → (length (x ∷ xs) == 0) ≡ false
none_more x xs = ne_eqb (length (x ∷ xs)) 0 (λ e. absurd (omega (arith, e)))

some_onto : (b : ℕ) (lines : List (List ℕ)) → (length (onto_first b lines) == 0) ≡ false
some_onto b [] = refl
some_onto b (line ∷ lines) = none_more (b ∷ line) lines

some_step : (s : Bool) (b : ℕ) (lines : List (List ℕ)) → (length (cond s ((b ∷ []) ∷ lines) (onto_first b lines)) == 0) ≡ false
some_step true b lines = none_more (b ∷ []) lines
some_step false b lines = some_onto b lines

-- there are lines where there are bytes
pub lines_some : (text : List ℕ) → (length text == 0) ≡ (length (lines_of text) == 0)
unfolding lines_of
lines_some [] = refl
lines_some (b ∷ text) = none_more b text ∙ sym (some_step (is_newline b) b (lines_of text))

-- no bytes are no lines
pub lines_none : (text : List ℕ) → (length text == 0) ≡ true → lines_of text ≡ []
unfolding lines_of
lines_none text e = ap lines_of (nil_from_length text (eqb-true _ _ e))

-- a byte more in front
concat_onto : (b : ℕ) (lines : List (List ℕ)) → concat (onto_first b lines) ≡ b ∷ concat lines
concat_onto b [] = refl
concat_onto b (line ∷ lines) = refl

concat_step : (s : Bool) (b : ℕ) (lines : List (List ℕ)) → concat (cond s ((b ∷ []) ∷ lines) (onto_first b lines)) ≡ b ∷ concat lines
concat_step true b lines = refl
concat_step false b lines = concat_onto b lines

-- the lines, one after the other, are the text
pub lines_whole : (text : List ℕ) → concat (lines_of text) ≡ text
unfolding lines_of
lines_whole [] = refl
lines_whole (b ∷ text) = concat_step (is_newline b) b (lines_of text) ∙ ap (λ (x : List ℕ). b ∷ x) (lines_whole text)

-- ---- lines that were ended by a newline

-- a line that stands before others
pub lines_again : (text rest : List ℕ) → Lacks 10 text → lines_of (text ++ 10 ∷ rest) ≡ (text ++ 10 ∷ []) ∷ lines_of rest
unfolding lines_of
lines_again [] rest lack = refl
lines_again (b ∷ text) rest lack = grind (arith, common_steps, lines_again text rest)

-- what is printable has no newline
no_newline : (text : List ℕ) → list_all is_printable text ≡ true → Lacks 10 text
no_newline [] e = refl
no_newline (b ∷ text) e = grind (arith, common_steps, no_newline text)

-- a line of words that stands before others
pub words_line_again : (ws : List (List ℕ)) (rest : List ℕ) → AllByRecursion IsWord ws → lines_of (joined ws ++ 10 ∷ rest) ≡ (joined ws ++ 10 ∷ []) ∷ lines_of rest
words_line_again ws rest is = lines_again (joined ws) rest (no_newline (joined ws) (joined_printable ws is))
