-- The keys of a value, as they are copied.
use Rattle.replica.proofs.Common.{BTreeSet, IsIn, RisingKeys, append-nil, common_steps}
use Rattle.std.proofs.Common.{arith, ◌≡◌, ℕ, true, List, [], ◌∷◌, ◌++◌, Option, Some, Result, Ok, Err}
use Rattle.std.specs.Prelude.{IfOk, ◌↔◌}
use Rattle.replica.specs.Rows.{Keyed, is_among, is_listed, IsIndexOf, value_at, AreKeysWith}
use Rattle.replica.proofs.Rising.{is_in_set}
use Rattle.replica.proofs.Tied.{has_some}

-- one key more was copied
pub copied_more : (done rest next all : List (List ℕ)) (key copy : List ℕ) → done ++ rest ≡ all → rest ≡ key ∷ next → copy ≡ key → (done ++ copy ∷ []) ++ next ≡ all
copied_more done rest next all key copy so_far step same = grind (arith, common_steps)

pub copied_all : (done rest all : List (List ℕ)) → done ++ rest ≡ all → rest ≡ [] → done ≡ all
copied_all done rest all so_far none = grind (arith, common_steps, append-nil)

-- the keys of a set, in a result, are those that it is asked for
pub keys_in_set : {T E : Type 0} (items : T → List (List ℕ)) (r : Result T E) (s : BTreeSet (List ℕ)) (o : Option (BTreeSet (List ℕ))) → o ≡ Some s → IfOk r (λ t. items t ≡ s.keys)
    → IfOk r (λ t. (x : List ℕ) → IsIn x (items t) ↔ (is_among o x ≡ true))
keys_in_set items (Ok t) s o some all = λ x. rw (all, some) (is_in_set s.keys x)
keys_in_set items (Err e) s o some all = tt

pub keys_with : {T E : Type 0} (items : T → List (List ℕ)) (r : Result T E) (rows : List (List ℕ × List ℕ)) (index : Keyed) (v : List ℕ) → IsIndexOf rows index
    → IfOk r (λ t. RisingKeys (items t)) → IfOk r (λ t. (x : List ℕ) → IsIn x (items t) ↔ (is_listed index x v ≡ true)) → IfOk r (λ t. AreKeysWith (value_at rows) v (items t))
keys_with items (Ok t) rows index v tied rising exact = record { rising = rising; each = λ x. grind (arith, common_steps, exact x, tied x v, has_some (value_at rows x) v) }
keys_with items (Err e) rows index v tied rising exact = tt
