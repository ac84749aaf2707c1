-- The parts of a span between rising keys.
use Rattle.spans.proofs.Common.{Equal, Greater, Less, Ordering, and_parts, at_drop_all, common_steps, is_eq, is_eq-slice_cmp, is_lt, key_cmp, or_left, or_right, ordering_reverse}
use Rattle.std.proofs.Common.{rules, Bool, List, Option, Some, ap, arith, cond, drop, false, get_or, length, refl, suc, sym, true, zero, ℕ, ◌&&◌, ◌<◌, ◌≤◌, ◌||◌, ◌≡◌, ◌++◌, ◌∷◌, ◌∙◌, []}
use Rattle.std.specs.Prelude.{bytes_eq, not}
use Rattle.std.proofs.lemmas.List.Kept.{AllPairs-cons}
use Rattle.spans.specs.Keys.{in_span, AreApart, NoneOverlap, is_held}
use Rattle.spans.specs.KeyOrder.{below_high, from_low, successor}
use Rattle.spans.specs.declared.span.Span.{Span}
use Rattle.spans.proofs.Keyed.{IsIn, RisingKeys}
use Rattle.spans.proofs.Steps.{by_test, same_key}
use Rattle.spans.proofs.Succeeding.{above_successor}
use Rattle.spans.proofs.WriteSets.{has, has_in}
use Rattle.spans.proofs.KeyOrder.{above_low, less_is, turned, under_high}

abbrev pub span_of : Option (List ℕ) → Option (List ℕ) → Span
span_of lo hi = record { lo = lo; hi = hi }

-- the parts of the span from lo to hi
abbrev pub parts : Option (List ℕ) → Option (List ℕ) → List (List ℕ) → List Span
parts lo hi [] = span_of lo hi ∷ []
parts lo hi (k ∷ ks) = cond (from_low lo k && below_high hi k) (span_of lo (Some k) ∷ parts (Some (successor k)) hi ks) (parts lo hi ks)

-- where no key is left, one part more is the last
pub all_parts : (done : List Span) (lo first hi hi' : Option (List ℕ)) (ks : List (List ℕ)) (i : ℕ) → length ks ≤ i → hi' ≡ hi
    → done ++ parts lo hi (drop i ks) ≡ parts first hi ks → done ++ span_of lo hi' ∷ [] ≡ parts first hi ks
all_parts done lo first hi hi' ks i end same so_far = ap (λ h. done ++ span_of lo h ∷ []) same ∙ sym (at_drop_all (λ l. done ++ parts lo hi l) ks i end) ∙ so_far

not_among : (x k : List ℕ) (ks : List (List ℕ)) → key_cmp x k ≡ Less → ((y : List ℕ) → IsIn y ks → key_cmp k y ≡ Less) → has x ks ≡ false
not_among x k ks less above = grind (arith, common_steps, by_test, has, has_in, turned)

other_key : (x k : List ℕ) (o : Ordering) → key_cmp x k ≡ o → bytes_eq k x ≡ is_eq (ordering_reverse o)
other_key x k o e = sym (is_eq-slice_cmp k x) ∙ ap is_eq (turned k x o e)

-- the part below k and the rest
cut : (x k : List ℕ) (lo hi : Option (List ℕ)) (ks : List (List ℕ)) (o : Ordering) → key_cmp x k ≡ o → from_low lo k ≡ true → below_high hi k ≡ true → ((y : List ℕ) → IsIn y ks → key_cmp k y ≡ Less)
    → ((from_low lo x && is_lt o) || ((is_lt (ordering_reverse o) && below_high hi x) && not (has x ks))) ≡ ((from_low lo x && below_high hi x) && not (is_eq (ordering_reverse o) || has x ks))
cut x k lo hi ks Less e low high above = grind (arith, common_steps, under_high, not_among)
cut x k lo hi ks Equal e low high above = grind (arith, common_steps)
cut x k lo hi ks Greater e low high above = grind (arith, common_steps, above_low, turned)

apart_from_key : (a b c : Bool) → (b ≡ true → a ≡ false) → (a && not c) ≡ (a && not (b || c))
apart_from_key a b c h = grind (arith, common_steps)

-- the parts hold what the span holds but for the keys
pub parts_hold : (lo hi : Option (List ℕ)) (ks : List (List ℕ)) → RisingKeys ks → (x : List ℕ) → is_held (parts lo hi ks) x ≡ ((from_low lo x && below_high hi x) && not (has x ks))
parts_hold lo hi [] rising x = grind (arith, common_steps)
parts_hold lo hi (k ∷ ks) rising x = by_test (from_low lo k && below_high hi k)
    (λ inside. rw (inside, parts_hold (Some (successor k)) hi ks rising.1 x, above_successor k x, turned k x (key_cmp x k) refl, other_key x k (key_cmp x k) refl)
    (cut x k lo hi ks (key_cmp x k) refl (and_parts _ _ inside).0 (and_parts (from_low lo k) _ inside).1 rising.0))
    (λ outside. search (apart_from_key, has, same_key, parts_hold lo hi ks rising.1 x, rules, arith))

-- at most one more than the keys
pub parts_few : (lo hi : Option (List ℕ)) (ks : List (List ℕ)) → length (parts lo hi ks) ≤ suc (length ks)
parts_few lo hi [] = omega arith
parts_few lo hi (k ∷ ks) = grind (arith, common_steps, parts_few (Some (successor k)) hi ks, parts_few lo hi ks)

held_at : (spans : List Span) (j : ℕ) (d : Span) (x : List ℕ) → j < length spans → in_span (get_or spans j d) x ≡ true → is_held spans x ≡ true
held_at [] j d x low inside = absurd (omega arith)
held_at (s ∷ ss) zero d x low inside = or_left _ _ inside
held_at (s ∷ ss) (suc j) d x low inside = or_right _ _ (held_at ss j d x (omega arith) inside)

-- no key lies in two of them
pub parts_apart : (lo hi : Option (List ℕ)) (ks : List (List ℕ)) → RisingKeys ks → NoneOverlap (parts lo hi ks)
parts_apart lo hi [] rising = λ i j d less low. absurd (omega arith)
parts_apart lo hi (k ∷ ks) rising = by_test (from_low lo k && below_high hi k)
    (λ inside. rw inside (AllPairs-cons AreApart (span_of lo (Some k)) (parts (Some (successor k)) hi ks)
    (λ j d low x first. grind (arith, common_steps, by_test, held_at, above_successor, and_parts, parts_hold, turned, less_is)) (parts_apart (Some (successor k)) hi ks rising.1)))
    (λ outside. rw outside (parts_apart lo hi ks rising.1))
