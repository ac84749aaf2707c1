-- The call that the parts of a scan make, or why they make none.
use Rattle.std.proofs.Common.{List, None, Option, Some, Bool, Ok, Err, Result, ap, cond, false, inl, inr, subst, sym, true, ℕ, ◌∙◌, ◌≡◌}
use Rattle.std.specs.Prelude.{length, nat_le, ◌&&◌}
use Rattle.embedded.specs.declared.bounded.Bounded.{Bounded}
use Rattle.embedded.specs.declared.database.Database.{Database}
use Rattle.ripsawbean.specs.BoundedExports.{BoundedOn, bound_fault, high_of, low_of, span_fault, BoundedOf, IsUnmade}
use Rattle.ripsawbean.specs.TypedExports.{OfHandle, seat_fault, ◌or◌, IsOf}
use Rattle.ripsawbean.specs.declared.typed.Unfit.{Unfit}
use Rattle.ripsawbean.specs.declared.typed.Unfit.TheVariants.{KeyLength, NoMemory, ValueLength}

-- ---- a span's fault is never out of memory

either_none : (a b : Option ℕ) → ¬ (a ≡ Some 12) → ¬ (b ≡ Some 12) → ¬ ((a or b) ≡ Some 12)
either_none None b first second is = second is
either_none (Some n) b first second is = first is

bound_none : (o : Option (List ℕ)) → ¬ (bound_fault o ≡ Some 12)
bound_none None is = cc
bound_none (Some bytes) is = by (nat_le 1 (length bytes) && nat_le (length bytes) 257) is
  where
    by : (b : Bool) → ¬ (cond {A = Option ℕ} b None (Some 4) ≡ Some 12)
    by true is = cc
    by false is = cc

span_none : (low : List ℕ) (has_high : ℕ) (high : List ℕ) → ¬ (span_fault low has_high high ≡ Some 12)
span_none low has_high high = either_none (bound_fault (low_of low)) (bound_fault (high_of has_high high)) (bound_none (low_of low)) (bound_none (high_of has_high high))

-- ---- the call

made_on : (seat : ℕ) (fault : Option ℕ) (cmd : Bounded) (o : Result Bounded Unfit) (old : Database) (n : ℕ) (new : Database) → ¬ (fault ≡ Some 12) → IsOf fault (Unit {0}) cmd o → BoundedOf seat o old n new → BoundedOn (seat_fault seat or fault) seat cmd old n new
made_on seat fault cmd (Ok c) old n new none is made = by (seat_fault seat) fault is made
  where
    by : (f fault : Option ℕ) → IsOf fault (Unit {0}) cmd (Ok c) → BoundedOn f seat c old n new → BoundedOn (f or fault) seat cmd old n new
    by (Some m) fault is made = made
    by None (Some m) is made = absurd is
    by None None is made = subst (λ (x : Bounded). BoundedOn None seat x old n new) is made
made_on seat fault cmd (Err unfit) old n new none is made = by (seat_fault seat) fault unfit none is made
  where
    by : (f fault : Option ℕ) (u : Unfit) → ¬ (fault ≡ Some 12) → IsOf fault (Unit {0}) cmd (Err u) → IsUnmade f u old n new → BoundedOn (f or fault) seat cmd old n new
    by (Some m) fault u none is made = made
    by None (Some m) KeyLength none is made = (made.0 ∙ is, made.1)
    by None (Some m) ValueLength none is made = (made.0 ∙ is, made.1)
    by None (Some m) NoMemory none is made = absurd (none (ap Some (sym is)))
    by None None KeyLength none is made = absurd (let no : 4 ≡ 12 = is.0 in cc)
    by None None ValueLength none is made = absurd (let no : 5 ≡ 12 = is.0 in cc)
    by None None NoMemory none is (inl wanting, same) = inr (inr (inl (wanting.0, same, wanting.1)))
    by None None NoMemory none is (inr spent, same) = inr (inr (inr (spent.0, same, spent.1)))

-- the same of a handle's database
pub scan_made : (seat : ℕ) (low : List ℕ) (has_high : ℕ) (high : List ℕ) (cmd : Bounded) (o : Result Bounded Unfit) (old : Option Database) (n : ℕ) (new : Option Database) → IsOf (span_fault low has_high high) (Unit {0}) cmd o → OfHandle (BoundedOf seat o) old n new → OfHandle (BoundedOn (seat_fault seat or span_fault low has_high high) seat cmd) old n new
scan_made seat low has_high high cmd o (Some old) n (Some new) is made = made_on seat (span_fault low has_high high) cmd o old n new (span_none low has_high high) is made
scan_made seat low has_high high cmd o (Some old) n None is made = absurd made
scan_made seat low has_high high cmd o None n new is made = made
