-- What a step gave that did not fail.
use Rattle.std.proofs.Common.{◌≡◌, Bool, true, false, cond, Result, Ok, Err, refl}
use Rattle.json_lines.specs.declared.fault.MessageFault.{MessageFault}
use Rattle.json_lines.specs.Meaning.{◌>>=◌}

-- the value of a step that did not fail
pub bind_ok : {A B : Type 0} (r : Result A MessageFault) (f : A → Result B MessageFault) (y : B) → (r >>= f) ≡ Ok y → (x : A) × (r ≡ Ok x) × (f x ≡ Ok y)
bind_ok (Ok x) f y e = (x, refl, e)
bind_ok (Err d) f y e = absurd cc

-- a test that did not fail
pub guarded : {A : Type 0} (b : Bool) (d : MessageFault) (r : Result A MessageFault) (y : A) → cond b r (Err d) ≡ Ok y → (b ≡ true) × (r ≡ Ok y)
guarded true d r y e = (refl, e)
guarded false d r y e = absurd cc

abbrev pub pure : {A : Type 0} → A → Result A MessageFault
pure x = Ok x

pub ok_is : {A : Type 0} (x y : A) → pure x ≡ pure y → x ≡ y
ok_is x y e = cc
