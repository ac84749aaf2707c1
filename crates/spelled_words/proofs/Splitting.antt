-- The words of a text, one by one.
use Rattle.spelled_words.proofs.Common.{at_drop_all, at_drop_more, common_steps, length-drop, list_all, list_any, ltb-false, ltb-true, ne_eqb, onto_first, position_or_len, take_all}
use Rattle.std.proofs.Common.{◌≡◌, Ok, Err, get_or, ℕ, ◌+◌, ◌-◌, ◌<◌, ◌≤◌, Bool, true, false, cond, List, [], ◌∷◌, length, take, drop, Option, Some, None, refl, sym, ap, ◌∙◌, inl, inr, ◌⊎◌, arith}
use Rattle.std.specs.Prelude.{◌||◌, ◌&&◌, ◌==◌, nat_lt, not, is_some, position}
use Rattle.std.specs.Borrow.{Bor}
use Rattle.std.specs.Int.{from_bool}
use Rattle.std.proofs.lemmas.List.Recursion.{is_position_or_len}
use Rattle.std.proofs.lemmas.List.Splits.{slice_split-cons_yes, slice_split-cons_no, slice_split_first, length-slice_split}
use Rattle.spelled_words.specs.Words.{is_space, is_empty, is_printable, words, words_at, words_left}
use Rattle.spelled_words.specs.declared.fault.LineFault.TheVariants.{WordCount}

-- how many bytes stand before the first space
abbrev pub first_space : List ℕ → ℕ
first_space [] = 0
first_space (b ∷ text) = cond (is_space b) 0 (1 + first_space text)

pub first_space_is : (text : List ℕ) → first_space text ≡ position_or_len is_space text
first_space_is text = is_position_or_len first_space is_space refl (λ b text. refl) text

alone_step : (s : Bool) (b : ℕ) (text : List ℕ) → is_space b ≡ s → (length text ≤ first_space text → words text ≡ text ∷ []) → length (b ∷ text) ≤ cond s 0 (1 + first_space text) → words (b ∷ text) ≡ (b ∷ text) ∷ []
alone_step true b text e ih long = absurd (omega arith)
alone_step false b text e ih long = slice_split-cons_no is_space b text e ∙ ap (onto_first b) (ih (omega arith))

-- a text with no space is one word
pub alone : (text : List ℕ) → length text ≤ first_space text → words text ≡ text ∷ []
alone [] long = refl
alone (b ∷ text) long = alone_step (is_space b) b text refl (alone text) long

-- whether it is found, and where
pub place_cases : (p n : ℕ) (s : Bool) (at : Option ℕ) → nat_lt p n ≡ s → at ≡ cond s (Some p) None → ((at ≡ Some p) × (p < n)) ⊎ ((at ≡ None) × (n ≤ p))
place_cases p n true at t e = inl (e, ltb-true p n t)
place_cases p n false at t e = inr (e, ltb-false p n t)

-- where there is no space
pub words_alone : (text : List ℕ) → None ≡ position is_space text → words text ≡ text ∷ []
words_alone text none = grind (arith, common_steps, place_cases, alone, first_space_is)

-- where there is one
pub words_first : (text : List ℕ) (at : ℕ) → Some at ≡ position is_space text → words text ≡ take at text ∷ words (drop (at + 1) text)
words_first text at found = grind (arith, common_steps, place_cases, slice_split_first)

-- the end of a text, as a range of it
pub end_is : (n : ℕ) (text : List ℕ) → take (length text - n) (drop n text) ≡ drop n text
end_is n text = take_all (length text - n) (drop n text) (omega (arith, length-drop n text))

-- ---- empty words

-- whether a word of the rest is empty, a word beginning there or not
abbrev pub some_empty : Bool → List ℕ → Bool
some_empty begins [] = begins
some_empty begins (b ∷ text) = cond (is_space b) (begins || some_empty true text) (some_empty false text)

abbrev any_after : Bool → List (List ℕ) → Bool
any_after true parts = list_any is_empty parts
any_after false [] = false
any_after false (part ∷ parts) = list_any is_empty parts

pub words_some : (text : List ℕ) → 0 < length (words text)
words_some text = omega (arith, length-slice_split is_space text)

-- no word is left where nothing is
pub words_none : (rest : Option (Bor (List ℕ))) (none : Bool) → is_some rest ≡ not none → none ≡ (length (words_left rest) == 0)
words_none None true e = refl
words_none None false e = absurd cc
words_none (Some rest) true e = absurd cc
words_none (Some rest) false e = sym (ne_eqb (length (words rest.now)) 0 (λ e. absurd (omega (arith, e, words_some rest.now))))

any_onto : (begins : Bool) (b : ℕ) (parts : List (List ℕ)) → 0 < length parts → any_after begins (onto_first b parts) ≡ any_after false parts
any_onto begins b [] some = absurd (omega arith)
any_onto true b (part ∷ parts) some = ap (λ (x : Bool). x || list_any is_empty parts) (ne_eqb (length (b ∷ part)) 0 (λ e. absurd (omega (arith, e))))
any_onto false b (part ∷ parts) some = refl

empty_step : (s begins : Bool) (b : ℕ) (text : List ℕ) → is_space b ≡ s → ((t : Bool) → some_empty t text ≡ any_after t (words text)) → cond s (begins || some_empty true text) (some_empty false text) ≡ any_after begins (words (b ∷ text))
empty_step true true b text e ih = sym (ap (any_after true) (slice_split-cons_yes is_space b text e))
empty_step true false b text e ih = ih true ∙ sym (ap (any_after false) (slice_split-cons_yes is_space b text e))
empty_step false begins b text e ih = ih false ∙ sym (any_onto begins b (words text) (words_some text)) ∙ sym (ap (any_after begins) (slice_split-cons_no is_space b text e))

empties : (begins : Bool) (text : List ℕ) → some_empty begins text ≡ any_after begins (words text)
empties true [] = refl
empties false [] = refl
empties begins (b ∷ text) = empty_step (is_space b) begins b text refl (λ t. empties t text)

pub some_empty_is : (text : List ℕ) → some_empty true text ≡ list_any is_empty (words text)
some_empty_is text = empties true text

-- ---- one byte more

pub empty_more : (h a : Bool) (text : List ℕ) (i : ℕ) (total : Bool) → i < length text → (h || some_empty a (drop i text)) ≡ total
    → ((h || (a && is_space (get_or text i 0))) || some_empty (is_space (get_or text i 0)) (drop (i + 1) text)) ≡ total
empty_more h a text i total lt so_far = grind (arith, common_steps)

length_onto : (b : ℕ) (parts : List (List ℕ)) → 0 < length parts → length (onto_first b parts) ≡ 0 + length parts
length_onto b parts some = grind arith

count_step : (s : Bool) (b : ℕ) (text : List ℕ) → is_space b ≡ s → length (words (b ∷ text)) ≡ (cond s 1 0) + length (words text)
count_step true b text e = ap length (slice_split-cons_yes is_space b text e) ∙ omega arith
count_step false b text e = ap length (slice_split-cons_no is_space b text e) ∙ length_onto b (words text) (words_some text)

pub at_most_one : (s : Bool) → from_bool s ≤ 1
at_most_one s = grind arith

as_number : (s : Bool) → cond s 1 0 ≡ from_bool s
as_number s = grind arith

pub count_more : (n : ℕ) (text : List ℕ) (i total : ℕ) → i < length text → n + length (words (drop i text)) ≡ total → (n + from_bool (is_space (get_or text i 0))) + length (words (drop (i + 1) text)) ≡ total
count_more n text i total lt so_far = grind (arith, common_steps, at_drop_more, count_step, as_number)

pub printable_more : (text : List ℕ) (i : ℕ) (total : Bool) → i < length text → is_printable (get_or text i 0) ≡ true → list_all is_printable (drop i text) ≡ total → list_all is_printable (drop (i + 1) text) ≡ total
printable_more text i total lt p so_far = grind (arith, common_steps)

pub words_short : (text : List ℕ) → list_all is_printable text ≡ true → list_any is_empty (words text) ≡ true → words_at text ≡ Err WordCount
unfolding words_at
words_short text e k = rw (e, k) refl

pub words_good : (text : List ℕ) → list_all is_printable text ≡ true → list_any is_empty (words text) ≡ false → words_at text ≡ Ok (words text)
unfolding words_at
words_good text e k = rw (e, k) refl

-- what is left of a text at its end
pub at_end : {Y : Type 0} (F : List ℕ → Y) (text : List ℕ) (i : ℕ) → length text ≤ i → F (drop i text) ≡ F []
at_end F text i long = at_drop_all F text i long
