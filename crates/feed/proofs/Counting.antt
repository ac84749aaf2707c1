-- How many feeds live.
use Rattle.std.proofs.lemmas.Grind.{common_steps}
use Rattle.std.proofs.Common.{arith, List, [], false, length, sym, true, ℕ, ◌≡◌, ◌∷◌, ◌∙◌}
use Rattle.std.specs.Prelude.{is_some, nat_eq, ◌↔◌}
use Rattle.feed.proofs.Common.{nat_tests, AllByRecursion, AreDistinct, Has, IsDistinct, keys_of, lookup}
use Rattle.std.proofs.lemmas.Map.Entries.{length-keys_of}
use Rattle.feed.specs.Standing.{IsCountOf, Lives}

apart : (f : ℕ) (fs : List ℕ) → AllByRecursion (λ g. nat_eq f g ≡ false) fs → Has f fs → ⊥
apart f [] all i = i
apart f (g ∷ fs) all i = grind (arith, nat_tests, common_steps, apart f fs all.1)

pub distinct : (fs : List ℕ) → IsDistinct nat_eq fs → AreDistinct fs
unfolding IsDistinct
distinct [] d = tt
distinct (f ∷ fs) d = (apart f fs d.0, distinct fs d.1)

pub has_key : (f : ℕ) (es : Lives) → Has f (keys_of es) ↔ (is_some (lookup (nat_eq f) es) ≡ true)
has_key f [] = (λ i. absurd i, λ e. cc)
has_key f (e ∷ es) = grind (arith, nat_tests, common_steps, has_key f es)

pub counted : (opened n : ℕ) (es : Lives) → IsDistinct nat_eq (keys_of es) → n ≡ length es → IsCountOf (record { opened = opened; live = es }) n
counted opened n es d is = record {
  feeds = keys_of es;
  those = record { distinct = distinct (keys_of es) d; each = λ f. has_key f es };
  count = length-keys_of es ∙ sym is;
}
