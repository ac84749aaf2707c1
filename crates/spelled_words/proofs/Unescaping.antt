-- Reading a word byte by byte, as a loop does.
use Rattle.spelled_words.proofs.Common.{append-nil, common_steps, nil_from_length}
use Rattle.std.proofs.Common.{arith, ◌≡◌, ℕ, ◌<◌, List, [], ◌∷◌, ◌++◌, length, Option, Some, None, refl, ap, sym, ◌∙◌, append_assoc}
use Rattle.spelled_words.specs.Words.{first_at, with_front, unspelled}
use Rattle.spelled_words.proofs.Spellings.{by_first, unspelled_first}

-- what was read before, and what is still read
abbrev pub onto : List ℕ → Option (List ℕ) → Option (List ℕ)
onto front None = None
onto front (Some bytes) = Some (front ++ bytes)

onto_first : (front : List ℕ) (b : ℕ) (read : Option (List ℕ)) → onto front (with_front b read) ≡ onto (front ++ b ∷ []) read
onto_first front b None = refl
onto_first front b (Some bytes) = ap (λ (x : List ℕ). Some x) (sym (append_assoc front (b ∷ []) bytes))

pub goes_on : (front rest others : List ℕ) (b : ℕ) (total : Option (List ℕ)) → 0 < length rest → first_at rest ≡ Some (b, others) → onto front (unspelled rest) ≡ total → onto (front ++ b ∷ []) (unspelled others) ≡ total
goes_on front rest others b total some first so_far = grind (arith, common_steps, onto_first, unspelled_first, by_first)

pub fails : (front rest : List ℕ) (total : Option (List ℕ)) → 0 < length rest → first_at rest ≡ None → onto front (unspelled rest) ≡ total → total ≡ None
fails front rest total some first so_far = sym so_far ∙ ap (onto front) (unspelled_first rest some ∙ ap by_first first)

pub is_done : (front rest : List ℕ) (total : Option (List ℕ)) → length rest ≡ 0 → onto front (unspelled rest) ≡ total → total ≡ Some front
unfolding unspelled
is_done front rest total none so_far = sym so_far ∙ ap (λ (x : List ℕ). onto front (unspelled x)) (nil_from_length rest none) ∙ ap (λ (x : List ℕ). Some x) (append-nil front)
