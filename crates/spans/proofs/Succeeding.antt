-- The bytes of a key and a zero byte are the least above the key.
use Rattle.std.proofs.Common.{List, arith, refl, ℕ, ◌∷◌, ◌≡◌, []}
use Rattle.std.specs.Prelude.{not}
use Rattle.spans.proofs.Common.{common_steps, nat_tests}
use Rattle.spans.specs.KeyOrder.{key_lt, successor}

pub above_successor : (k x : List ℕ) → not (key_lt x (successor k)) ≡ key_lt k x
above_successor [] [] = refl
above_successor [] (y ∷ []) = grind (arith, common_steps, nat_tests)
above_successor [] (y ∷ z ∷ ys) = grind (arith, common_steps, nat_tests)
above_successor (a ∷ k) [] = refl
above_successor (a ∷ k) (y ∷ ys) = grind (arith, common_steps, above_successor k ys)
