-- Rows and keys that rise, and what they say of a map.
use Rattle.replica.proofs.Common.{AllByRecursion, IsIn, IsPairIn, KeysRise, Less, Span, by_test, common_steps, false_from_ne_true, in_span, is_at, key_clash, key_cmp, key_itself, keys_of, list_all, list_any, or_cases, or_left, or_right, same_key}
use Rattle.std.proofs.Common.{rules}
use Rattle.std.proofs.Common.{◌≡◌, ℕ, zero, suc, ◌+◌, ◌<◌, true, List, [], ◌∷◌, length, get_or, Some, refl, inl, inr, arith}
use Rattle.std.specs.Prelude.{◌↔◌}
use Rattle.std.specs.List.Sorted.{IsStrictlySortedBy}
use Rattle.replica.specs.Rows.{value_at, AreRowsOf}
use Rattle.replica.specs.Starts.{AreInside}
use Rattle.replica.proofs.Listed.{at_bytes}

abbrev Pairs : Type 0
Pairs = List (List ℕ × List ℕ)

above_all : (y : List ℕ) (es : Pairs) → AllByRecursion (λ z. key_cmp y z ≡ Less) (keys_of es) → (x v : List ℕ) → IsPairIn es x v → key_cmp y x ≡ Less
above_all y [] all x v i = absurd i
above_all y (e ∷ es) all x v i = grind (arith, common_steps, above_all y es all.1 x v)

-- the entries of an ordered map rise
pub rows_rise : (es : Pairs) → IsStrictlySortedBy key_cmp (keys_of es) → KeysRise es
unfolding IsStrictlySortedBy
rows_rise [] rising = tt
rows_rise (e ∷ es) rising = (above_all e.0 es rising.0, rows_rise es rising.1)

pub pair_at : (es : Pairs) (x v : List ℕ) → value_at es x ≡ Some v → IsPairIn es x v
pair_at [] x v is = cc
pair_at (e ∷ es) x v is = search (by_test, same_key, at_bytes, pair_at es x v, rules, arith)

pub at_pair : (es : Pairs) (x v : List ℕ) → KeysRise es → IsPairIn es x v → value_at es x ≡ Some v
at_pair [] x v rising i = absurd i
at_pair (e ∷ es) x v rising i = search (at_bytes, key_itself, false_from_ne_true, same_key, key_clash, at_pair es x v rising.1, rules, arith)

-- the entries of an ordered map are its rows
pub are_rows_of : (es : Pairs) → IsStrictlySortedBy key_cmp (keys_of es) → AreRowsOf (value_at es) es
are_rows_of es rising = grind (arith, common_steps, rows_rise, at_pair, pair_at)

pub is_in_set : (ks : List (List ℕ)) (x : List ℕ) → IsIn x ks ↔ (list_any (is_at (key_cmp x)) ks ≡ true)
is_in_set [] x = (λ i. absurd i, λ e. cc)
is_in_set (k ∷ ks) x = search (or_left, at_bytes, key_itself, or_right, or_cases, same_key, is_in_set ks x, rules, arith)

-- rising keys at neighbouring places
pub rise_at : (es : Pairs) (i : ℕ) (d : List ℕ × List ℕ) → KeysRise es → i + 1 < length es → key_cmp (get_or es i d).0 (get_or es (i + 1) d).0 ≡ Less
rise_at [] i d rising low = absurd (omega arith)
rise_at (e ∷ []) i d rising low = absurd (omega arith)
rise_at (e ∷ f ∷ fs) zero d rising low = rising.0 f.0 f.1 (inl (refl, refl))
rise_at (e ∷ f ∷ fs) (suc i) d rising low = grind (arith, common_steps, rise_at (f ∷ fs) i d rising.1)

pub keys_at : (es : Pairs) (i : ℕ) (d : List ℕ × List ℕ) → get_or (keys_of es) i d.0 ≡ (get_or es i d).0
keys_at [] i d = refl
keys_at (e ∷ es) zero d = refl
keys_at (e ∷ es) (suc i) d = keys_at es i d

-- the test of all keys says whether they lie in the span
pub inside_is : (s : Span) (es : Pairs) → (list_all (λ (e : List ℕ × List ℕ). in_span s e.0) es ≡ true) ↔ AreInside s es
inside_is s [] = (λ _ x v i. absurd i, λ _. refl)
inside_is s (e ∷ es) =
    (λ all x v i. grind (arith, common_steps, (inside_is s es).0), λ inside. grind (arith, common_steps, inside e.0 e.1 (inl (refl, refl)), (inside_is s es).1 (λ x v i. inside x v (inr i))))
