-- A list that was split in two, with one element of each half written.
use Rattle.std.proofs.Common.{◌≡◌, ℕ, zero, suc, ◌<◌, List, [], ◌∷◌, ◌++◌, length, set, take, drop, refl, sym, ap, ◌∙◌, subst, arith}
use Rattle.sessions.proofs.Common.{each_read, length-set, take-append_seam}
use mathlib.Core.Option.{some}
use lib.ListN.{get_elem?, get_or}

module _ {A : Type 0} where
  half_set : (xs : List A) (h : ℕ) (b : A) → h < length xs → take h xs ++ set (drop h xs) 0 b ≡ set xs h b
  half_set [] h b there = absurd (omega arith)
  half_set (x ∷ xs) zero b there = refl
  half_set (x ∷ xs) (suc h) b there = ap (λ ys. x ∷ ys) (half_set xs h b (omega arith))

  halves_set : (xs : List A) (i h : ℕ) (a b : A) → i < h → h < length xs → set (take h xs) i a ++ set (drop h xs) 0 b ≡ set (set xs i a) h b
  halves_set (x ∷ xs) zero (suc h) a b order there = ap (λ ys. a ∷ ys) (half_set xs h b (omega arith))
  halves_set (x ∷ xs) (suc i) (suc h) a b order there = ap (λ ys. x ∷ ys) (halves_set xs i h a b (omega arith) (omega arith))
  halves_set _ i h a b order there = absurd (omega arith)

  -- the whole list, once both halves are back in place
  pub joined : (xs front back rest : List A) (i h n : ℕ) (a b : A) → front ≡ take h xs → back ≡ drop h xs → i < h → h < length xs → n ≡ length xs → take n ((set front i a ++ set back 0 b) ++ rest) ≡ set (set xs i a) h b
  joined xs front back rest i h n a b is_front is_back order there long =
      let whole : set front i a ++ set back 0 b ≡ set (set xs i a) h b = rw (is_front, is_back) (halves_set xs i h a b order there) in
      let l : length (set (set xs i a) h b) ≡ n = omega (arith, long, length-set (set xs i a) h b, length-set xs i a) in
      ap (λ ys. take n (ys ++ rest)) whole ∙ subst (λ (k : ℕ). take k (set (set xs i a) h b ++ rest) ≡ set (set xs i a) h b) l (take-append_seam (set (set xs i a) h b) rest)

  in_front : (xs : List A) (h i : ℕ) (a : A) → i < h → get_elem? (take h xs) i ≡ some a → get_elem? xs i ≡ some a
  in_front xs zero i a order e = absurd (omega arith)
  in_front (x ∷ xs) (suc h) (suc i) a order e = in_front xs h i a (omega arith) e
  in_front _ (suc h) i a order e = e

  in_back : (xs : List A) (h : ℕ) (a : A) → get_elem? (drop h xs) 0 ≡ some a → get_elem? xs h ≡ some a
  in_back xs zero a e = e
  in_back [] (suc h) a e = e
  in_back (x ∷ xs) (suc h) a e = in_back xs h a e

  pub read_at : (xs : List A) (i : ℕ) (a : A) → i < length xs → a ≡ get_or xs i a → get_elem? xs i ≡ some a
  read_at xs i a there at = each_read (λ j d. get_elem? xs j ≡ some d) xs i a (λ j d e. e) there at

  pub read_front : (xs front : List A) (i h : ℕ) (a : A) → front ≡ take h xs → i < h → i < length front → a ≡ get_or front i a → get_elem? xs i ≡ some a
  read_front xs front i h a is order there at = in_front xs h i a order (ap (λ ys. get_elem? ys i) (sym is) ∙ read_at front i a there at)

  pub read_back : (xs back : List A) (h : ℕ) (a : A) → back ≡ drop h xs → 0 < length back → a ≡ get_or back 0 a → get_elem? xs h ≡ some a
  read_back xs back h a is there at = in_back xs h a (ap (λ ys. get_elem? ys 0) (sym is) ∙ read_at back 0 a there at)
