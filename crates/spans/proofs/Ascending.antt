-- Rising keys, by std's word.
use Rattle.std.proofs.Common.{List, inl, inr, subst, sym, true, ℕ, ◌==◌, ◌≡◌, ◌∷◌, []}
use Rattle.spans.proofs.Common.{AllByRecursion, Equal, Greater, IsStrictlySortedBy, Less, Ordering, key_cmp, ordering_index}
use Rattle.spans.proofs.Keyed.{IsIn, RisingKeys}

lower : (x : List ℕ) (keys : List (List ℕ)) → AllByRecursion (λ y. key_cmp x y ≡ Less) keys → (y : List ℕ) → IsIn y keys → key_cmp x y ≡ Less
lower x [] all y i = absurd i
lower x (z ∷ zs) all y i = elim i [ inl here ↦ subst (λ k. key_cmp x k ≡ Less) here all.0 | inr there ↦ lower x zs all.1 y there ]

pub rising_keys : (keys : List (List ℕ)) → IsStrictlySortedBy key_cmp keys → RisingKeys keys
unfolding IsStrictlySortedBy
rising_keys [] sorted = tt
rising_keys (x ∷ xs) sorted = (lower x xs sorted.0, rising_keys xs sorted.1)

-- two keys of which the first is lower
pub two_rise : (x y : List ℕ) (keys : List (List ℕ)) (o : Ordering) → keys ≡ x ∷ y ∷ [] → o ≡ key_cmp x y → (ordering_index o == 0) ≡ true → IsStrictlySortedBy key_cmp keys
unfolding IsStrictlySortedBy
two_rise x y keys Less is less e = rw is ((sym less, tt), (tt, tt))
two_rise x y keys Equal is less e = cc
two_rise x y keys Greater is less e = cc
