-- The order of places, by timestamp and then by key.
use Rattle.version_chain.proofs.Common.{Equal, Greater, Less, and_from, and_left, and_right, both_ways, common_steps, eq-eqb, is_eq, is_eq-slice_cmp, is_lt, key_cmp, key_lt, le-ltb, lt-ltb, nat_list_cmp_total, nat_tests, ne_eqb, or_from, or_left, or_right, ordering_reverse, same_key, tied_itself}
use Rattle.std.proofs.Common.{List, Option, Some, None, ap, arith, false, refl, sym, true, ℕ, ◌<◌, ◌≤◌, ◌&&◌, ◌==◌, ◌⊎◌, ◌≡◌, ◌∙◌}
use Rattle.std.specs.Prelude.{nat_lt}
use Rattle.std.specs.declared.cmp.Ordering.{Ordering}
use Rattle.version_chain.specs.Walking.{is_after_place, is_before}

parts : (t i : ℕ) (x y : List ℕ) → is_before t x i y ≡ true → (t < i) ⊎ ((t ≡ i) × (key_cmp x y ≡ Less))
parts t i x y e = grind (arith, common_steps)

pub from_less : (t i : ℕ) (x y : List ℕ) → t < i → is_before t x i y ≡ true
from_less t i x y l = or_left (nat_lt t i) ((t == i) && key_lt x y) (lt-ltb t i l)

from_same : (t i : ℕ) (x y : List ℕ) → t ≡ i → key_cmp x y ≡ Less → is_before t x i y ≡ true
from_same t i x y e l = or_right (nat_lt t i) ((t == i) && key_lt x y) (and_from (t == i) (key_lt x y) (eq-eqb t i e) (ap is_lt l))

pub before_trans : (t i j : ℕ) (x y z : List ℕ) → is_before t x i y ≡ true → is_before i y j z ≡ true → is_before t x j z ≡ true
before_trans t i j x y z first second = grind (arith, common_steps, parts, from_less, from_same, nat_list_cmp_total)

pub before_itself : (t : ℕ) (x : List ℕ) → is_before t x t x ≡ true → ⊥
before_itself t x e = grind (arith, common_steps, parts, tied_itself, nat_list_cmp_total)

-- two places of which neither is before the other are the same
pub before_neither : (t i : ℕ) (x y : List ℕ) → is_before t x i y ≡ false → is_before i y t x ≡ false → (t ≡ i) × (x ≡ y)
before_neither t i x y a b =
    let same : t ≡ i = grind (arith, nat_tests) in
    (same, by (key_cmp x y) refl same)
  where
    by : (o : Ordering) → key_cmp x y ≡ o → t ≡ i → x ≡ y
    by Less is same = absurd (both_ways _ a (from_same t i x y same is))
    by Equal is same = same_key x y (sym (is_eq-slice_cmp x y) ∙ ap is_eq is)
    by Greater is same = absurd (both_ways _ b (from_same i t y x (sym same) (nat_list_cmp_total.antisymm y x ∙ ap ordering_reverse is)))

-- what comes after a place that is after another comes after that
pub after_trans : (ts : ℕ) (key : Option (List ℕ)) (t i : ℕ) (x y : List ℕ) → is_after_place ts key x t ≡ true → is_before t x i y ≡ true → is_after_place ts key y i ≡ true
after_trans ts None t i x y later before = grind (arith, common_steps)
after_trans ts (Some key) t i x y later before = before_trans ts t i key x y later before

pub later_is_not_before : (i : ℕ) (y : List ℕ) (t : ℕ) (x : List ℕ) → t < i → is_before i y t x ≡ false
later_is_not_before i y t x later = or_from (nat_lt i t) ((i == t) && key_lt y x) (le-ltb i t (omega arith)) (and_left (i == t) (key_lt y x) (ne_eqb i t (λ same. omega arith)))

pub beside_is_not_before : (i : ℕ) (y : List ℕ) (t : ℕ) (x : List ℕ) → i ≡ t → key_lt y x ≡ false → is_before i y t x ≡ false
beside_is_not_before i y t x same high = or_from (nat_lt i t) ((i == t) && key_lt y x) (le-ltb i t (omega arith)) (and_right (i == t) (key_lt y x) high)

pub higher_is_not_below : (x y : List ℕ) → key_cmp x y ≡ Less → key_lt y x ≡ false
higher_is_not_below x y less = ap is_lt (nat_list_cmp_total.antisymm y x ∙ ap ordering_reverse less)

-- at its own timestamp, what comes after a place with a key is above that key
pub at_place : (ts : ℕ) (key x : List ℕ) (i : ℕ) → is_after_place ts (Some key) x i ≡ true → i ≤ ts → (i ≡ ts) × (key_lt key x ≡ true)
at_place ts key x i later low = grind (arith, common_steps)

pub after_beside : (ts : ℕ) (key x : List ℕ) → key_lt key x ≡ true → is_after_place ts (Some key) x ts ≡ true
after_beside ts key x high = grind (arith, nat_tests)

pub key_above : (x y : List ℕ) → key_cmp x y ≡ Less → key_lt x y ≡ true
key_above x y less = ap is_lt less
