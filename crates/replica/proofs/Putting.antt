-- A value that was put at a key of a map.
use Rattle.std.proofs.Common.{◌≡◌, ℕ, false, cond, List, Option, Some, None, arith}
use Rattle.replica.proofs.Common.{common_steps, is_at, key_cmp, lookup}
use Rattle.replica.specs.Rows.{value_at, has_value}
use Rattle.replica.proofs.Tied.{Lists, AreTied, IsMore, IsLess, IsPut, put_at, tied_new, tied_other}

abbrev pub Entries : Type 0
Entries = List (List ℕ × List ℕ)

-- the look-ups after a change at k
abbrev pub IsChanged : Entries → Entries → List ℕ → Option (List ℕ) → Type 0
IsChanged m n k o = (q : List ℕ) → lookup (is_at (key_cmp q)) n ≡ cond (is_at (key_cmp k) q) o (lookup (is_at (key_cmp q)) m)

pub is_put : (m n : Entries) (own key : List ℕ) (o : Option (List ℕ)) → own ≡ key → IsChanged m n own o → IsPut (value_at m) (value_at n) key o
is_put m n own key o same changed x = grind (arith, common_steps, put_at (value_at m) (value_at n) own o changed x)

pub ties_new : (m n : Entries) (l g : Lists) (own key a : List ℕ) → own ≡ key → AreTied (value_at m) l → value_at m own ≡ None → IsChanged m n own (Some a) → IsMore l g key a → AreTied (value_at n) g
ties_new m n l g own key a same tied none changed more = tied_new (value_at m) (value_at n) l g key a tied (rw (← same) none) (is_put m n own key (Some a) same changed) more

pub ties_other : (m n : Entries) (l f g : Lists) (own key a b : List ℕ) → own ≡ key → AreTied (value_at m) l → value_at m own ≡ Some b → has_value (value_at m key) a ≡ false → IsChanged m n own (Some a)
    → IsMore l f key a → IsLess f g key b → AreTied (value_at n) g
ties_other m n l f g own key a b same tied some apart changed more less =
    let some' : value_at m key ≡ Some b = rw (← same) some in
    tied_other (value_at m) (value_at n) l f g key a b tied some' (grind (arith, common_steps)) (is_put m n own key (Some a) same changed) more less
