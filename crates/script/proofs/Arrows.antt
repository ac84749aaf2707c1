-- The word `=>` behind the arguments of a command.
use Rattle.script.proofs.Common.{WordCount, common_steps, drop-drop}
use Rattle.std.proofs.Common.{arith}
use Rattle.std.proofs.Common.{◌≡◌, ℕ, zero, suc, ◌+◌, Bool, cond, List, [], ◌∷◌, get_or, drop, Option, Some, None, Ok, Err, refl, sym, ap, ◌∙◌}
use Rattle.std.specs.Prelude.{codes, bytes_eq, MatchOption}
use Rattle.std.specs.Borrow.{Bor}
use Rattle.script.specs.EventLines.{behind_arrow}

-- a word was taken, or none was left
pub one_on : (r : Option (Bor (List ℕ))) (i : ℕ) (words old new : List (List ℕ)) → MatchOption r ((old ≡ []) × (new ≡ [])) (λ word. old ≡ word.now ∷ new) → old ≡ drop i words → new ≡ drop (i + 1) words
one_on None i words old new taken so_far = taken.1 ∙ sym (ap (drop 1) taken.0) ∙ ap (drop 1) so_far ∙ drop-drop 1 i words
one_on (Some word) i words old new taken so_far = sym (ap (drop 1) taken) ∙ ap (drop 1) so_far ∙ drop-drop 1 i words

-- past the end there is no word
none_at : (n : ℕ) (words : List (List ℕ)) → drop n words ≡ [] → get_or words n [] ≡ []
none_at zero [] e = refl
none_at zero (word ∷ words) e = absurd cc
none_at (suc n) [] e = refl
none_at (suc n) (word ∷ words) e = none_at n words e

-- the words end before `=>`
pub too_short : (n : ℕ) (words : List (List ℕ)) → drop n words ≡ [] → behind_arrow n words ≡ Err WordCount
unfolding behind_arrow
too_short n words e = rw (none_at n words e) refl

-- the word behind the arguments
pub at_word : (n : ℕ) (words after : List (List ℕ)) (word : List ℕ) → drop n words ≡ word ∷ after → behind_arrow n words ≡ cond (bytes_eq word (codes "=>")) (Ok after) (Err WordCount)
unfolding behind_arrow
at_word n words after word e = grind (arith, common_steps)

-- what is answered where no word is left
pub is_none : (n : ℕ) (words ahead : List (List ℕ)) → ahead ≡ drop n words → ahead ≡ [] → Err WordCount ≡ behind_arrow n words
is_none n words ahead skipped none = sym (too_short n words (sym skipped ∙ none))

-- what is answered of the word that is there
pub is_arrow : (same : Bool) (n : ℕ) (words ahead after : List (List ℕ)) (word arrow : List ℕ) → ahead ≡ drop n words → ahead ≡ word ∷ after → arrow ≡ codes "=>" → bytes_eq word arrow ≡ same → cond same (Ok after) (Err WordCount) ≡ behind_arrow n words
is_arrow same n words ahead after word arrow skipped taken is e = grind (arith, common_steps, at_word)
