-- The least of a list, as a walk over it finds it.
use Rattle.plain_database.proofs.Common.{least_of}
use Rattle.std.proofs.Common.{◌≡◌, ℕ, List, [], ◌∷◌, refl, ◌∙◌, arith}
use Rattle.std.specs.List.{fold}
use Rattle.std.specs.Prelude.{min}

least_less : (n m : ℕ) (ns : List ℕ) → least_of (min n m) ns ≡ min m (least_of n ns)
least_less n m [] = omega arith
least_less n m (k ∷ ns) = omega (arith, least_less n m ns)

pub folded : (n : ℕ) (ns : List ℕ) → fold min n ns ≡ least_of n ns
folded n [] = refl
folded n (m ∷ ns) = folded (min n m) ns ∙ least_less n m ns
