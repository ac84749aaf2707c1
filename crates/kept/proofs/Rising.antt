-- Lists of numbers that rise, and lists that fall.
use Rattle.kept.proofs.Common.{AllByRecursion, Has, Less, common_steps, nat_cmp, nat_tests, AreDistinct}
use Rattle.std.proofs.Common.{List, [], arith, inl, inr, refl, subst, ℕ, ◌++◌, ◌<◌, ◌∷◌, ◌≡◌, ◌⊎◌}
use Rattle.std.specs.Prelude.{◌↔◌}
use Rattle.std.specs.List.Sorted.{IsStrictlyIncreasing, IsStrictlySortedBy}
use Rattle.std.proofs.lemmas.Map.Keys.{sorted_from_strictly_increasing}

-- each is below all after it
abbrev pub Rises : List ℕ → Type 0
Rises [] = Unit {0}
Rises (x ∷ xs) = ((y : ℕ) → Has y xs → x < y) × Rises xs

-- each is above all after it
abbrev pub Falls : List ℕ → Type 0
Falls [] = Unit {0}
Falls (x ∷ xs) = ((y : ℕ) → Has y xs → y < x) × Falls xs

-- so none stands twice
pub falls_distinct : (xs : List ℕ) → Falls xs → AreDistinct xs
falls_distinct [] falls = tt
falls_distinct (x ∷ xs) falls = (λ i. let no : x < x = falls.0 x i in omega arith, falls_distinct xs falls.1)

-- one more at the end
pub has_last : (y x : ℕ) (xs : List ℕ) → Has y (xs ++ x ∷ []) ↔ (Has y xs ⊎ (x ≡ y))
has_last y x [] = (λ i. elim i [ inl here ↦ inr here | inr there ↦ absurd there ], λ i. elim i [ inl none ↦ absurd none | inr here ↦ inl here ])
has_last y x (z ∷ xs) = grind (arith, common_steps, has_last y x xs)

pub rises_last : (x : ℕ) (xs : List ℕ) → Rises xs → ((y : ℕ) → Has y xs → y < x) → Rises (xs ++ x ∷ [])
rises_last x [] rising low = (λ y i. absurd i, tt)
rises_last x (z ∷ xs) rising low = (
  λ y i. elim ((has_last y x xs).0 i) [ inl there ↦ rising.0 y there | inr e ↦ subst (λ n. z < n) e (low z (inl refl)) ],
  rises_last x xs rising.1 (λ y i. low y (inr i)),
)

-- rising lists of the same are one
pub same_rising : (xs ys : List ℕ) → Rises xs → Rises ys → ((x : ℕ) → Has x xs ↔ Has x ys) → xs ≡ ys
same_rising [] [] r s same = refl
same_rising [] (y ∷ ys) r s same = absurd ((same y).1 (inl refl))
same_rising (x ∷ xs) [] r s same = absurd ((same x).0 (inl refl))
same_rising (x ∷ xs) (y ∷ ys) r s same =
    let a = same x in let b = same y in let first : x ≡ y = grind (arith, common_steps) in
    grind (arith, common_steps, same_rising xs ys r.1 s.1)

less_is : (x y : ℕ) → nat_cmp x y ≡ Less → x < y
less_is x y e = grind (arith, nat_tests)

above : (x y : ℕ) (xs : List ℕ) → AllByRecursion (λ k. nat_cmp x k ≡ Less) xs → Has y xs → x < y
above x y [] all i = absurd i
above x y (z ∷ xs) all i = elim i [ inl here ↦ less_is x y (subst (λ k. nat_cmp x k ≡ Less) here all.0) | inr there ↦ above x y xs all.1 there ]

sorted_rises : (xs : List ℕ) → IsStrictlySortedBy nat_cmp xs → Rises xs
unfolding IsStrictlySortedBy
sorted_rises [] s = tt
sorted_rises (x ∷ xs) s = (λ y i. above x y xs s.0 i, sorted_rises xs s.1)

pub increasing_rises : (xs : List ℕ) → IsStrictlyIncreasing xs → Rises xs
increasing_rises xs s = sorted_rises xs (sorted_from_strictly_increasing xs s)
