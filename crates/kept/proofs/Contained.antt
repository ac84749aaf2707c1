-- A list has what it contains.
use Rattle.std.proofs.Common.{List, [], arith, inl, inr, refl, ◌∷◌}
use Rattle.std.specs.Prelude.{Contains, ◌↔◌}
use Rattle.kept.proofs.Common.{All-contains, All-from_recursion, AllByRecursion, Contains-append_right, Has}

contains_it : {A : Type 0} (x : A) (xs : List A) → Has x xs → Contains xs x
contains_it x [] i = absurd i
contains_it x (y ∷ xs) i = elim i [
  | inl here ↦ (0, omega arith, here)
  | inr there ↦ Contains-append_right (y ∷ []) xs x (contains_it x xs there)
]

each_has : {A : Type 0} (xs ys : List A) → ((x : A) → Has x xs → Has x ys) → AllByRecursion (λ x. Has x ys) xs
each_has [] ys all = tt
each_has (x ∷ xs) ys all = (all x (inl refl), each_has xs ys (λ y i. all y (inr i)))

pub contains_has : {A : Type 0} (x : A) (xs : List A) → Contains xs x ↔ Has x xs
contains_has x xs = (All-contains (λ y. Has y xs) xs x (All-from_recursion (λ y. Has y xs) xs (each_has xs xs (λ y i. i))), contains_it x xs)
