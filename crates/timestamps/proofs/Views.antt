-- Lists of views, read and set by place.
use Rattle.std.proofs.Common.{◌≡◌, ℕ, zero, suc, ◌+◌, ◌≤◌, ◌≢◌, List, [], ◌∷◌, ◌++◌, set, sym, ap, subst, ⊎_elim, arith}
use Rattle.timestamps.proofs.Common.{sum_by, sum_by-cons}
use mathlib.Core.Option.{some, some-injective, some-ne-none}
use lib.ListN.{get_elem?}
use Rattle.atomic_table.proofs.Lists.{at_set, at_snoc}

module _ {A : Type 0} where
  pub sum_set : (f : A → ℕ) (l : List A) (i : ℕ) (a b : A) → get_elem? l i ≡ some a → sum_by f (set l i b) + f a ≡ sum_by f l + f b
  sum_set f [] i a b e = absurd (some-ne-none a (sym e))
  sum_set f (x ∷ xs) zero a b e = let q = ap f (some-injective x a e) in omega (arith, sum_by-cons f x xs, sum_by-cons f b xs)
  sum_set f (x ∷ xs) (suc i) a b e = let q = sum_set f xs i a b e in omega (arith, sum_by-cons f x xs, sum_by-cons f x (set xs i b))

  pub one_of_sum : (f : A → ℕ) (l : List A) (i : ℕ) (a : A) → get_elem? l i ≡ some a → f a ≤ sum_by f l
  one_of_sum f [] i a e = absurd (some-ne-none a (sym e))
  one_of_sum f (x ∷ xs) zero a e = let q = ap f (some-injective x a e) in omega (arith, sum_by-cons f x xs)
  one_of_sum f (x ∷ xs) (suc i) a e = let q = one_of_sum f xs i a e in omega (arith, sum_by-cons f x xs)

  pub each_set : (P : A → Type 0) (l : List A) (i : ℕ) (a : A) → P a → ((j : ℕ) (b : A) → get_elem? l j ≡ some b → P b) → (j : ℕ) (b : A) → get_elem? (set l i a) j ≡ some b → P b
  each_set P l i a new old j b e = ⊎_elim (λ (t : (j ≡ i) × (a ≡ b)). subst P t.1 new) (λ (t : (j ≢ i) × (get_elem? l j ≡ some b)). old j b t.1) (at_set l i j a b e)

  pub each_more : (P : A → Type 0) (l : List A) (a : A) → P a → ((j : ℕ) (b : A) → get_elem? l j ≡ some b → P b) → (j : ℕ) (b : A) → get_elem? (l ++ a ∷ []) j ≡ some b → P b
  each_more P l a new old j b e = ⊎_elim (old j b) (λ (t : a ≡ b). subst P t new) (at_snoc l a b j e)
