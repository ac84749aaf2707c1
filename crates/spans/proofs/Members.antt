-- Lists that stand for sets: distinct lists of the same are of one length.
use Rattle.spans.proofs.Common.{All-cons, All-nil, common_steps}
use Rattle.std.proofs.Common.{Bool, List, refl, arith, inr, false, suc, ap, true, inl, sym, length, ◌≡◌, ◌≤◌, ◌⊎◌, ◌∷◌, ◌++◌, ◌∙◌, ℕ, []}
use Rattle.std.specs.Prelude.{All, filter, is_some, not, ◌+◌, ◌↔◌}
pub use Rattle.spans.specs.Keys.{Has, AreDistinct}
use Rattle.spans.specs.Effects.{Begins, Effect}
use Rattle.spans.specs.Transactions.{is_undecided, owner_of, begun_of, undecided_timestamps}
use Rattle.spans.proofs.Copies.{AllAllowed}
use Rattle.spans.proofs.Keyed.{key_clash, IsIn, RisingKeys}
use Rattle.spans.proofs.Open.{IsAmong}
use Rattle.spans.proofs.Steps.{by_test}

-- the list without one that it has
record Without {A : Type 0} (x : A) (ys : List A) : Type 0 where
  pub rest : List A
  pub one_less : length ys ≡ suc (length rest)
  pub split : (y : A) → Has y ys → (x ≡ y) ⊎ Has y rest

-- a list that has x is one longer than without it
without : {A : Type 0} (x : A) (ys : List A) → Has x ys → Without x ys
without x [] i = absurd i
without x (y ∷ ys) i = elim i [
  | inl here ↦ record { rest = ys; one_less = refl; split = λ z j. grind (arith, common_steps) }
  | inr there ↦ (let w = without x ys there in record {
    rest = y ∷ w.rest;
    one_less = ap suc w.one_less;
    split = λ z j. let s = w.split z in
        grind (arith, common_steps);
  })
]

-- a distinct list is no longer than one that has each of its members
pub fits_in : {A : Type 0} (xs ys : List A) → AreDistinct xs → ((x : A) → Has x xs → Has x ys) → length xs ≤ length ys
fits_in [] ys d all = omega arith
fits_in (x ∷ xs) ys d all =
    let w = without x ys (all x (inl refl)) in
    grind (arith, common_steps, fits_in xs)

-- distinct lists of the same are of one length
pub same_length : {A : Type 0} (xs ys : List A) → AreDistinct xs → AreDistinct ys → ((x : A) → Has x xs ↔ Has x ys) → length xs ≡ length ys
same_length xs ys d e same = omega (arith, fits_in xs ys d (λ x i. (same x).0 i), fits_in ys xs e (λ x i. (same x).1 i))

-- what a filter leaves is what passes the test
pub has_filter : {A : Type 0} (q : A → Bool) (x : A) (xs : List A) → Has x (filter q xs) ↔ ((q x ≡ true) × Has x xs)
has_filter q x [] = (λ i. absurd i, λ i. absurd i.1)
has_filter q x (y ∷ ys) = grind (arith, common_steps, has_filter q x ys)

-- a distinct list stays so under a filter
pub distinct_filter : {A : Type 0} (q : A → Bool) (xs : List A) → AreDistinct xs → AreDistinct (filter q xs)
distinct_filter q [] d = tt
distinct_filter q (x ∷ xs) d = grind (arith, common_steps, by_test, has_filter, distinct_filter q xs d.1)

-- what is in two lists joined is in one of them
pub has_append : {A : Type 0} (v : A) (xs ys : List A) → Has v (xs ++ ys) ↔ (Has v xs ⊎ Has v ys)
has_append v [] ys = (λ i. inr i, λ i. elim i [ inl l ↦ absurd l | inr k ↦ k ])
has_append v (x ∷ xs) ys = grind (arith, common_steps, has_append v xs ys)

-- distinct lists that have nothing in common are distinct together
pub distinct_append : {A : Type 0} (xs ys : List A) → AreDistinct xs → AreDistinct ys → ((v : A) → Has v xs → Has v ys → ⊥) → AreDistinct (xs ++ ys)
distinct_append [] ys d e apart = e
distinct_append (x ∷ xs) ys d e apart = grind (arith, common_steps, has_append, distinct_append xs ys d.1 e)

-- a key among keys is one of the list
pub in_has : (x : List ℕ) (ks : List (List ℕ)) → IsIn x ks → Has x ks
in_has x ks i = i

-- and the other way round
pub has_is : (x : List ℕ) (ks : List (List ℕ)) → Has x ks → IsIn x ks
has_is x ks i = i

-- a timestamp among timestamps is one of the list
pub among_has : (t : ℕ) (ts : List ℕ) → IsAmong t ts → Has t ts
among_has t ts i = i

-- rising keys are distinct
pub rising_distinct : (ks : List (List ℕ)) → RisingKeys ks → AreDistinct ks
rising_distinct [] r = tt
rising_distinct (x ∷ xs) r = (λ i. let e = r.0 x (has_is x xs i) in key_clash x x e e, rising_distinct xs r.1)

-- who is among the begun has an owner
pub has_begun : (p : List Effect) (t : ℕ) → Has t (begun_of p) → is_some (owner_of p t) ≡ true
has_begun [] t i = absurd i
has_begun (Begins k seat ∷ p) t i = grind (arith, common_steps, has_begun p t)
has_begun (_ ∷ p) t i = has_begun p t i

-- no transaction begins twice
pub begun_distinct : (p : List Effect) → AllAllowed p → AreDistinct (begun_of p)
begun_distinct [] all = tt
begun_distinct (Begins k seat ∷ p) all = (λ i. let no : false ≡ true = ap is_some (sym all.0.1) ∙ has_begun p k i in cc, begun_distinct p all.1)
begun_distinct (_ ∷ p) all = begun_distinct p all.1

-- the undecided ones are distinct, so any distinct list of them counts them
pub open_distinct : (p : List Effect) → AllAllowed p → AreDistinct (undecided_timestamps p)
open_distinct p all = distinct_filter (is_undecided p) (begun_of p) (begun_distinct p all)

-- a list is what fails the test and what passes it
pub parted : {A : Type 0} (q : A → Bool) (xs : List A) → length xs ≡ length (filter (λ x. not (q x)) xs) + length (filter q xs)
parted q [] = refl
parted q (x ∷ xs) = grind (arith, common_steps, parted q xs)

-- what holds of each member holds of all
pub all_of : {A : Type 0} (P : A → Type 0) (xs : List A) → ((x : A) → Has x xs → P x) → All P xs
all_of P [] each = All-nil P
all_of P (x ∷ xs) each = All-cons P x xs (each x (inl refl)) (all_of P xs (λ y i. each y (inr i)))
