-- Where there is no value.
use Rattle.std.proofs.Common.{Option, Some, None, ◌≡◌, refl}

-- what is no value is none
pub none_of : {A : Type 0} (o : Option A) → ((x : A) → o ≡ Some x → ⊥) → o ≡ None
none_of None never = refl
none_of (Some x) never = absurd (never x refl)
