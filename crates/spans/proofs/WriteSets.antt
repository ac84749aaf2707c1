-- Which keys are among those that a transaction wrote.
use Rattle.spans.proofs.Common.{Equal, and-false, common_steps, exact_bytes, key_cmp, list_any, or_cases, or_left, or_right}
use Rattle.std.proofs.Common.{arith}
use Rattle.std.proofs.Common.{◌≡◌, ℕ, Bool, true, ◌&&◌, ◌||◌, List, [], ◌∷◌, refl, sym}
use Rattle.std.specs.Prelude.{◌↔◌, is_some, bytes_eq, filter}
use Rattle.spans.specs.Effects.{Effect}
use Rattle.spans.specs.Keys.{insert_key}
use Rattle.spans.specs.Versions.{write_of, write_set}
use Rattle.spans.proofs.Steps.{by_test, same_key, key_itself}
use Rattle.spans.proofs.Keyed.{IsIn, RisingKeys, add_rises}

-- the key is one of the list
abbrev pub has : List ℕ → List (List ℕ) → Bool
has x keys = list_any (λ y. bytes_eq y x) keys

pub has_added : (x y : List ℕ) (keys : List (List ℕ)) → has x (insert_key y keys) ≡ (bytes_eq y x || has x keys)
has_added x y [] = refl
has_added x y (z ∷ zs) = let same : key_cmp y z ≡ Equal → y ≡ z = exact_bytes y z in grind (arith, common_steps, has_added x y zs)

pub has_written : (p : List Effect) (t : ℕ) (x : List ℕ) → has x (write_set p t) ≡ is_some (write_of p t x)
has_written [] t x = refl
has_written (_ ∷ p) t x = grind (arith, common_steps, has_added, has_written p t x)

pub has_filtered : (q : List ℕ → Bool) (x : List ℕ) (keys : List (List ℕ)) → has x (filter q keys) ≡ (q x && has x keys)
has_filtered q x [] = sym (and-false (q x))
has_filtered q x (y ∷ ys) = grind (arith, common_steps, by_test, same_key, has_filtered q x ys)

pub has_in : (x : List ℕ) (keys : List (List ℕ)) → IsIn x keys ↔ (has x keys ≡ true)
has_in x [] = (λ i. absurd i, λ e. cc)
has_in x (y ∷ ys) = grind (arith, common_steps, or_left, key_itself, or_right, or_cases, same_key, has_in x ys)

pub write_set_rises : (p : List Effect) (t : ℕ) → RisingKeys (write_set p t)
write_set_rises [] t = tt
write_set_rises (_ ∷ p) t = grind (arith, common_steps, add_rises, write_set_rises p t)
