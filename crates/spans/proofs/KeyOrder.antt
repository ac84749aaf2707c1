-- The order of keys, and where a range begins that has the keys from a bound on.
use Rattle.spans.proofs.Common.{Equal, Greater, Less, MAX_KEY_BYTES, Ordering, common_steps, is_from_start, is_le, is_lt, key_cmp, leb-false, nat_list_cmp_total, not-true, ordering_reverse, tied_itself}
use Rattle.std.proofs.Common.{◌≡◌, ℕ, zero, suc, ◌<◌, ◌≤◌, true, false, List, [], ◌∷◌, length, take, Option, Some, None, refl, sym, ◌∙◌, ap, arith}
use Rattle.std.specs.Prelude.{not, nat_le}
use Rattle.spans.specs.KeyOrder.{key_lt, from_low, below_high, start_of}
use Rattle.spans.proofs.Steps.{by_test}

pub less_is : (o : Ordering) → is_lt o ≡ true → o ≡ Less
less_is Less e = refl
less_is Equal e = cc
less_is Greater e = cc

pub turned : (x y : List ℕ) (o : Ordering) → key_cmp y x ≡ o → key_cmp x y ≡ ordering_reverse o
turned x y o e = nat_list_cmp_total.antisymm x y ∙ ap ordering_reverse e

pub not_itself : (x : List ℕ) → key_lt x x ≡ false
not_itself x = ap is_lt (tied_itself nat_list_cmp_total x)

-- ---- the bounds of a span

pub above_low : (lo : Option (List ℕ)) (k x : List ℕ) → from_low lo k ≡ true → key_cmp k x ≡ Less → from_low lo x ≡ true
above_low None k x from less = refl
above_low (Some low) k x from less = grind (arith, common_steps, by_test, nat_list_cmp_total, less_is)

pub under_high : (hi : Option (List ℕ)) (k x : List ℕ) → below_high hi k ≡ true → key_cmp x k ≡ Less → below_high hi x ≡ true
under_high None k x below less = refl
under_high (Some high) k x below less = ap is_lt (nat_list_cmp_total.trans x k high less (less_is (key_cmp k high) below))

pub stays_above : (high : Option (List ℕ)) (x y : List ℕ) → below_high high x ≡ false → key_cmp x y ≡ Less → below_high high y ≡ false
stays_above None x y past less = (let no : true ≡ false = past in cc)
stays_above (Some high) x y past less = grind (arith, common_steps, nat_list_cmp_total)

-- ---- where the keys at or above a bound begin

-- a key at or above a bound is above each beginning of it that is shorter
above_shorter : (n : ℕ) (b x : List ℕ) → n < length b → key_lt x b ≡ false → key_lt (take n b) x ≡ true
above_shorter n [] x less from = absurd (omega arith)
above_shorter zero (c ∷ b) x less from = grind (arith, common_steps)
above_shorter (suc n) (c ∷ b) [] less from = grind (arith, common_steps)
above_shorter (suc n) (c ∷ b) (y ∷ x) less from = grind (arith, common_steps, above_shorter n b x)

-- and one that is no longer than that beginning, and above it, is above the bound
above_whole : (n : ℕ) (b x : List ℕ) → n < length b → length x ≤ n → key_lt (take n b) x ≡ true → key_lt x b ≡ false
above_whole n [] x less short above = absurd (omega arith)
above_whole zero (c ∷ b) x less short above = grind (arith, common_steps)
above_whole (suc n) (c ∷ b) [] less short above = grind (arith, common_steps)
above_whole (suc n) (c ∷ b) (y ∷ x) less short above = grind (arith, common_steps, above_whole n b x)

reversed : (o : Ordering) → is_le (ordering_reverse o) ≡ not (is_lt o)
reversed Less = refl
reversed Equal = refl
reversed Greater = refl

same_start : (low x : List ℕ) → is_le (key_cmp low x) ≡ not (key_lt x low)
same_start low x = ap is_le (nat_list_cmp_total.antisymm low x) ∙ reversed (key_cmp x low)

pub starts_before : (low : Option (List ℕ)) (x : List ℕ) → from_low low x ≡ true → is_from_start key_cmp (start_of low) x ≡ true
starts_before None x from = refl
starts_before (Some low) x from = by_test (nat_le (length low) MAX_KEY_BYTES)
    (λ fits. rw fits (same_start low x ∙ from))
    (λ more. rw more (above_shorter MAX_KEY_BYTES low x (leb-false _ _ more) (not-true _ from)))

pub starts_at : (low : Option (List ℕ)) (x : List ℕ) → length x ≤ MAX_KEY_BYTES → is_from_start key_cmp (start_of low) x ≡ true → from_low low x ≡ true
starts_at None x short from = refl
starts_at (Some low) x short from = by_test (nat_le (length low) MAX_KEY_BYTES)
    (λ fits. sym (same_start low x) ∙ rw fits at from)
    (λ more. ap not (above_whole MAX_KEY_BYTES low x (leb-false _ _ more) short (rw more at from)))
