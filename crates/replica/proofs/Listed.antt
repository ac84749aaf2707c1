-- What is listed after the keys of one value changed.
use Rattle.replica.proofs.Common.{BTreeSet, by_test, common_steps, is_at, key_cmp, lookup, same_key}
use Rattle.std.proofs.Common.{arith, rules, ◌≡◌, ℕ, false, cond, ◌&&◌, ◌||◌, List, Option}
use Rattle.std.specs.Prelude.{bytes_eq}
use Rattle.std.proofs.lemmas.Map.Text.{is_eq-slice_cmp}
use Rattle.replica.specs.Rows.{Keyed, is_among, is_listed}

pub at_bytes : (v u : List ℕ) → is_at (key_cmp v) u ≡ bytes_eq v u
at_bytes v u = is_eq-slice_cmp v u

-- the look-ups after the keys of v became w
abbrev pub ArePutAt : Keyed → Keyed → List ℕ → Option (BTreeSet (List ℕ)) → Type 0
ArePutAt es fs v w = (q : List ℕ) → lookup (is_at (key_cmp q)) fs ≡ cond (is_at (key_cmp v) q) w (lookup (is_at (key_cmp q)) es)

-- two changes of the same value in turn
pub put_at_twice : (es fs gs : Keyed) (v : List ℕ) (a b : Option (BTreeSet (List ℕ))) → ArePutAt es fs v a → ArePutAt fs gs v b → ArePutAt es gs v b
put_at_twice es fs gs v a b first second q = grind (arith, common_steps)

pub listed_more : (es fs : Keyed) (x v : List ℕ) (w : Option (BTreeSet (List ℕ))) → ArePutAt es fs v w → ((y : List ℕ) → is_among w y ≡ (bytes_eq x y || is_listed es y v))
    → (y u : List ℕ) → is_listed fs y u ≡ ((bytes_eq v u && bytes_eq x y) || is_listed es y u)
listed_more es fs x v w put among y u = search (by_test, at_bytes, same_key, rules, arith)

pub listed_less : (es fs : Keyed) (x v : List ℕ) (w : Option (BTreeSet (List ℕ))) → ArePutAt es fs v w → ((y : List ℕ) → is_among w y ≡ cond (bytes_eq x y) false (is_listed es y v))
    → (y u : List ℕ) → is_listed fs y u ≡ cond (bytes_eq v u && bytes_eq x y) false (is_listed es y u)
listed_less es fs x v w put among y u = search (by_test, at_bytes, same_key, rules, arith)

-- the keys of v are the same ones
pub listed_same : (es fs : Keyed) (v : List ℕ) (w : Option (BTreeSet (List ℕ))) → ArePutAt es fs v w → ((y : List ℕ) → is_among w y ≡ is_listed es y v)
    → (y u : List ℕ) → is_listed fs y u ≡ is_listed es y u
listed_same es fs v w put among y u = search (by_test, at_bytes, same_key, rules, arith)
