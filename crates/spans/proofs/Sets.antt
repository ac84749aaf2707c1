-- Sets of std as lists: of timestamps, and of keys.
use Rattle.spans.proofs.Common.{AllByRecursion, IsStrictlySortedBy, Less, Ordering, common_steps, is_eq-slice_cmp, key_cmp, list_any, nat_cmp, nat_tests, range_contains}
use Rattle.std.proofs.Common.{List, ap, arith, refl, true, ℕ, ◌≡◌, ◌∷◌, [], Bool, ◌∙◌, ◌||◌, cond, false, ◌<◌, ◌==◌, length}
use Rattle.std.specs.Prelude.{filter, nat_le, ◌↔◌, bytes_eq}
use Rattle.std.specs.BTreeMap.{is_at}
use Rattle.std.specs.BTreeSet as sets
use Rattle.std.specs.declared.ops.Bound.TheVariants.{Included, Unbounded}
use Rattle.spans.specs.Keys.{AreDistinct, Has, insert_key}
use Rattle.spans.proofs.Steps.{by_test}

-- the range of all is the whole set
pub all_within : {K : Type 0} (R : K → K → Ordering) (ks : List K) → filter (range_contains R Unbounded Unbounded) ks ≡ ks
all_within R [] = refl
all_within R (k ∷ ks) = ap (λ l. k ∷ l) (all_within R ks)

pub none_in : {K : Type 0} (p : K → Bool) (ks : List K) → (0 < length ks → ⊥) → list_any p ks ≡ false
none_in p [] empty = refl
none_in p (k ∷ ks) empty = absurd (empty (omega arith))

-- ---- timestamps

pub number_at : (t i : ℕ) → is_at (nat_cmp t) i ≡ (t == i)
number_at t i = grind (arith, nat_tests)

pub is_found : (t k : ℕ) → is_at (nat_cmp t) k ≡ true → k ≡ t
is_found t k e = grind (arith, nat_tests)

pub has_any : (t : ℕ) (ts : List ℕ) → Has t ts ↔ (list_any (is_at (nat_cmp t)) ts ≡ true)
has_any t [] = (λ i. absurd i, λ e. cc)
has_any t (k ∷ ks) = grind (arith, common_steps, has_any t ks)

none_later : (t : ℕ) (ks : List ℕ) → AllByRecursion (λ k. nat_cmp t k ≡ Less) ks → Has t ks → ⊥
none_later t [] all i = i
none_later t (k ∷ ks) all i = grind (arith, common_steps, none_later t ks all.1)

pub distinct_times : (ts : List ℕ) → IsStrictlySortedBy nat_cmp ts → AreDistinct ts
unfolding IsStrictlySortedBy
distinct_times [] rising = tt
distinct_times (t ∷ ts) rising = (none_later t ts rising.0, distinct_times ts rising.1)

pub in_range : (to t : ℕ) → range_contains nat_cmp Unbounded (Included to) t ≡ nat_le t to
in_range to t = grind (arith, nat_tests)

-- ---- keys

-- the set puts a key where the definitions do
pub put_is : (x : List ℕ) (keys : List (List ℕ)) → sets.insert_key key_cmp keys x ≡ insert_key x keys
put_is x [] = refl
put_is x (y ∷ keys) = grind (arith, common_steps, put_is x keys)

-- a set that one key came to, or went from
pub one_more : (x y : List ℕ) (b c : Bool) → c ≡ cond (is_at (key_cmp x) y) true b → c ≡ (bytes_eq x y || b)
one_more x y b c e = e ∙ ap (λ h. cond h true b) (is_eq-slice_cmp x y) ∙ by_test (bytes_eq x y) (λ on. rw on refl) (λ off. rw off refl)

pub one_less : (x y : List ℕ) (b c : Bool) → c ≡ cond (is_at (key_cmp x) y) false b → c ≡ cond (bytes_eq x y) false b
one_less x y b c e = e ∙ ap (λ h. cond h false b) (is_eq-slice_cmp x y)
