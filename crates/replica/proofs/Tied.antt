-- The tie of an index to its rows, after a change of both.
use Rattle.replica.proofs.Common.{Map, both_ways, by_test, common_steps, false_from_ne_true, is_at, key_cmp, key_itself, put, same_key}
use Rattle.std.proofs.Common.{arith, rules, ◌≡◌, ℕ, Bool, true, false, cond, ◌&&◌, ◌||◌, List, Option, Some, None, refl, sym, ◌∙◌, ap}
use Rattle.std.specs.Prelude.{bytes_eq, ◌↔◌}
use Rattle.std.proofs.Math.Bool.{and-true, and-false, or-false}
use Rattle.replica.specs.Rows.{has_value}
use Rattle.replica.proofs.Listed.{at_bytes}

-- which keys are listed under which values
abbrev pub Lists : Type 0
Lists = List ℕ → List ℕ → Bool

-- a key is listed under a value exactly where the map has that value at the key
abbrev pub AreTied : Map → Lists → Type 0
AreTied m l = (x v : List ℕ) → l x v ≡ has_value (m x) v

abbrev pub IsMore : Lists → Lists → List ℕ → List ℕ → Type 0
IsMore l n k a = (x v : List ℕ) → n x v ≡ ((bytes_eq a v && bytes_eq k x) || l x v)

abbrev pub IsLess : Lists → Lists → List ℕ → List ℕ → Type 0
IsLess l n k a = (x v : List ℕ) → n x v ≡ cond (bytes_eq a v && bytes_eq k x) false (l x v)

-- the same map, but for its value at k
abbrev pub IsPut : Map → Map → List ℕ → Option (List ℕ) → Type 0
IsPut m n k o = (x : List ℕ) → n x ≡ put m k o x

-- the look-ups after a change of a map, in the words of the definitions
pub put_at : (m n : Map) (k : List ℕ) (o : Option (List ℕ)) → ((q : List ℕ) → n q ≡ cond (is_at (key_cmp k) q) o (m q)) → IsPut m n k o
put_at m n k o changed x = changed x ∙ ap (λ b. cond b o (m x)) (at_bytes k x)

at_key : (m : Map) (k x : List ℕ) (o : Option (List ℕ)) → m k ≡ o → bytes_eq k x ≡ true → m x ≡ o
at_key m k x o e here = ap m (sym (same_key k x here)) ∙ e

less_same : (b : Bool) → cond b false b ≡ false
less_same true = refl
less_same false = refl

pub tied_new : (m n : Map) (l g : Lists) (k a : List ℕ) → AreTied m l → m k ≡ None → IsPut m n k (Some a) → IsMore l g k a → AreTied n g
tied_new m n l g k a tied none is more x v = search (by_test, at_key, and-true, or-false, and-false, rules, arith)

pub tied_other : (m n : Map) (l f g : Lists) (k a b : List ℕ) → AreTied m l → m k ≡ Some b → bytes_eq b a ≡ false → IsPut m n k (Some a) → IsMore l f k a → IsLess f g k b → AreTied n g
tied_other m n l f g k a b tied some apart is more less x v = grind (arith, common_steps, by_test, at_key, and-true, false_from_ne_true, both_ways, same_key, key_itself, or-false, and-false)

pub tied_less : (m n : Map) (l g : Lists) (k b : List ℕ) → AreTied m l → m k ≡ Some b → IsPut m n k None → IsLess l g k b → AreTied n g
tied_less m n l g k b tied some is less x v = search (by_test, at_key, and-true, less_same, and-false, rules, arith)

pub has_some : (o : Option (List ℕ)) (v : List ℕ) → (has_value o v ≡ true) ↔ (o ≡ Some v)
has_some None v = (λ e. cc, λ e. cc)
has_some (Some w) v = (λ e. ap Some (same_key w v e), λ e. let same : w ≡ v = cc in ap (bytes_eq w) (sym same) ∙ key_itself w)
