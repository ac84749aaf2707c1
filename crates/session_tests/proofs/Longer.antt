-- Lists that are longer.
use Rattle.std.proofs.Common.{◌≡◌, ℕ, zero, suc, List, [], ◌∷◌, ◌++◌, sym}
use mathlib.Core.Option.{some, some-ne-none}
use lib.ListN.{get_elem?}

-- what stands in a list stands there in a longer one
pub at_longer : {A : Type 0} (l m : List A) (i : ℕ) (a : A) → get_elem? l i ≡ some a → get_elem? (l ++ m) i ≡ some a
at_longer [] m i a e = absurd (some-ne-none a (sym e))
at_longer (x ∷ xs) m zero a e = e
at_longer (x ∷ xs) m (suc i) a e = at_longer xs m i a e
