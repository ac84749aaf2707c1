-- Spelled bytes.
use Rattle.spelled_words.proofs.Common.{common_steps, flat_map, le-leb, list_all}
use Rattle.std.proofs.Common.{◌≡◌, ℕ, Bool, true, false, cond, List, [], ◌∷◌, ◌<◌, length, Option, Some, None, refl, ap, arith}
use Rattle.std.specs.Prelude.{◌&&◌, ◌==◌, nat_le, option_and_then}
use Rattle.spelled_words.specs.Words.{is_plain, spelled, escaped, first_at, with_front, unspelled}

pub both : (a b : Bool) → (a && b) ≡ true → (a ≡ true) × (b ≡ true)
both true b e = (refl, e)
both false b e = absurd cc

-- bytes that stand for themselves are written as they are
pub plain_stand : (bytes : List ℕ) → list_all is_plain bytes ≡ true → flat_map spelled bytes ≡ bytes
plain_stand [] e = refl
plain_stand (b ∷ bytes) e = grind (arith, common_steps, plain_stand bytes)

-- bytes that stand for themselves are read as they are
pub plain_word : (word : List ℕ) → list_all is_plain word ≡ true → unspelled word ≡ Some word
unfolding unspelled
plain_word [] e = refl
plain_word (c ∷ []) e = rw (both (is_plain c) true e).0 refl
plain_word (c ∷ d ∷ []) e = grind (arith, common_steps)
plain_word (c ∷ d ∷ f ∷ word) e = grind (arith, common_steps, plain_word (d ∷ f ∷ word))

-- reading goes byte by byte
abbrev pub by_first : Option (ℕ × List ℕ) → Option (List ℕ)
by_first None = None
by_first (Some f) = with_front f.0 (unspelled f.1)

first_of_one : (p q : Bool) (c : ℕ) (x : Option (ℕ × List ℕ)) → cond p (Some (c ∷ [])) None ≡ by_first (cond p (Some (c, [])) (cond (q && false) x None))
unfolding unspelled
first_of_one true q c x = refl
first_of_one false true c x = refl
first_of_one false false c x = refl

first_of_two : (p r q : Bool) (c d : ℕ) (x : Option (ℕ × List ℕ)) → cond r (Some (d ∷ [])) None ≡ unspelled (d ∷ []) → cond (p && r) (Some (c ∷ d ∷ [])) None ≡ by_first (cond p (Some (c, d ∷ [])) (cond (q && false) x None))
first_of_two true true q c d x e = ap (with_front c) e
first_of_two true false q c d x e = ap (with_front c) e
first_of_two false r true c d x e = refl
first_of_two false r false c d x e = refl

first_of_more : (p q t : Bool) (c : ℕ) (more word : List ℕ) (e : Option ℕ) → t ≡ true
    → cond p (with_front c (unspelled more)) (cond q (option_and_then (λ b. with_front b (unspelled word)) e) None) ≡ by_first (cond p (Some (c, more)) (cond (q && t) (option_and_then (λ b. Some (b, word)) e) None))
first_of_more true q t c more word e long = refl
first_of_more false true true c more word None long = refl
first_of_more false true true c more word (Some b) long = refl
first_of_more false true false c more word e long = absurd cc
first_of_more false false t c more word e long = refl

pub unspelled_first : (word : List ℕ) → 0 < length word → unspelled word ≡ by_first (first_at word)
unfolding unspelled
unspelled_first [] some = absurd (omega arith)
unspelled_first (c ∷ []) some = first_of_one (is_plain c) (c == 37) c _
unspelled_first (c ∷ d ∷ []) some = first_of_two (is_plain c) (is_plain d) (c == 37) c d _ refl
unspelled_first (c ∷ h ∷ l ∷ word) some = first_of_more (is_plain c) (c == 37) (nat_le 3 (length (c ∷ h ∷ l ∷ word))) c (h ∷ l ∷ word) word (escaped h l) (le-leb _ _ (omega arith))
