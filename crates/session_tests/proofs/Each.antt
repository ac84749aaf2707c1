-- Lists whose elements are all of a kind.
use Rattle.std.proofs.Common.{◌≡◌, ℕ, zero, suc, List, [], ◌∷◌, All, sym, subst}
use Rattle.std.proofs.lemmas.List.Elements.{All-head, All-tail}
use mathlib.Core.Option.{some, some-injective, some-ne-none}
use lib.ListN.{get_elem?}

-- what stands at a place is of it
pub at_place : {A : Type 0} (P : A → Type 0) (xs : List A) (k : ℕ) (a : A) → All P xs → get_elem? xs k ≡ some a → P a
at_place P [] k a all at = absurd (some-ne-none a (sym at))
at_place P (x ∷ xs) zero a all at = subst P (some-injective x a at) (All-head P x xs all)
at_place P (x ∷ xs) (suc k) a all at = at_place P xs k a (All-tail P x xs all) at
