-- What is taken of two lists.
use Rattle.spans.proofs.Common.{common_steps, length-take}
use Rattle.std.proofs.Common.{List, [], ap, arith, length, refl, suc, take, zero, ℕ, ◌++◌, ◌-◌, ◌∷◌, ◌≡◌, ◌≤◌}

pub take_both : {A : Type 0} (m : ℕ) (xs ys : List A) → take m xs ++ take (m - length xs) ys ≡ take m (xs ++ ys)
take_both zero xs ys = let none : 0 - length xs ≡ 0 = omega arith in rw none refl
take_both (suc m) [] ys = ap (λ n. take n ys) (let all : suc m - 0 ≡ suc m = omega arith in all)
take_both (suc m) (x ∷ xs) ys = grind (arith, common_steps, take_both m xs ys)

pub take_again : {A : Type 0} (n : ℕ) (xs ys : List A) → take n (take n xs ++ ys) ≡ take n (xs ++ ys)
take_again zero xs ys = refl
take_again (suc n) [] ys = refl
take_again (suc n) (x ∷ xs) ys = ap (λ l. x ∷ l) (take_again n xs ys)

pub take_few : {A : Type 0} (n : ℕ) (xs : List A) → length (take n xs) ≤ n
take_few n xs = omega (arith, length-take n xs)
