-- What the table of transactions says after a change.
use Rattle.std.proofs.Common.{◌≡◌, ℕ, cond, ◌&&◌, ◌||◌, ◌==◌, List, [], ◌∷◌, Some, None, refl, arith}
use Rattle.std.specs.Prelude.{filter, nat_lt, option_map}
use Rattle.std.proofs.lemmas.List.Folds.{list_any-append}
use Rattle.plain_database.proofs.Common.{Excluded, Unbounded, common_steps, is_at, list_any, nat_cmp, nat_tests, range_contains, set_value}
use Rattle.plain_database.specs.declared.versions.begun.Begun.{Begun}
use Rattle.plain_database.specs.declared.versions.reads.Read.{Read}
use Rattle.plain_database.specs.Table.{is_across, AllBegun, begun_at, changed, is_crossed, new_begun, reading, with_begun}

-- ---- one of them changed

-- the change of the one that was found
pub set_is_changed : (f : Begun → Begun) (es : AllBegun) (t : ℕ) (b : Begun) → begun_at es t ≡ Some b → set_value (is_at (nat_cmp t)) es (f b) ≡ changed f es t
set_is_changed f [] t b found = refl
set_is_changed f (e ∷ es) t b found = grind (arith, common_steps, set_is_changed f es t b)

-- where none is found, none changes
pub changed_none : (f : Begun → Begun) (es : AllBegun) (t : ℕ) → begun_at es t ≡ None → changed f es t ≡ es
changed_none f [] t none = refl
changed_none f (e ∷ es) t none = grind (arith, common_steps, changed_none f es t)

pub lookup_changed : (f : Begun → Begun) (es : AllBegun) (t i : ℕ) → begun_at (changed f es t) i ≡ cond (t == i) (option_map f (begun_at es i)) (begun_at es i)
lookup_changed f [] t i = grind (arith, common_steps)
lookup_changed f (e ∷ es) t i = grind (arith, common_steps, nat_tests, lookup_changed f es t i)

-- ---- the reads across a key

-- where f leaves the reads alone
pub crossed_same : (f : Begun → Begun) → ((b : Begun) → (f b).reads ≡ b.reads) → (es : AllBegun) (t : ℕ) (x : List ℕ) (i : ℕ) → is_crossed (changed f es t) x i ≡ is_crossed es x i
crossed_same f same [] t x i = refl
crossed_same f same (e ∷ es) t x i = grind (arith, common_steps, same, crossed_same f same es t x i)

-- one more read by t
pub crossed_more : (r : Read) (es : AllBegun) (t : ℕ) (b : Begun) (x : List ℕ) (i : ℕ) → begun_at es t ≡ Some b → is_crossed (changed (reading r) es t) x i ≡ ((nat_lt i t && is_across x i r) || is_crossed es x i)
crossed_more r [] t b x i found = cc
crossed_more r (e ∷ es) t b x i found = grind (arith, common_steps, nat_tests, list_any-append, crossed_more r es t b x i)

-- the transactions above i alone are asked
pub asked_above : (es : AllBegun) (x : List ℕ) (i : ℕ) → list_any (λ (e : ℕ × Begun). list_any (is_across x i) e.1.reads) (filter (λ (e : ℕ × Begun). range_contains nat_cmp (Excluded i) Unbounded e.0) es) ≡ is_crossed es x i
asked_above [] x i = refl
asked_above (e ∷ es) x i = grind (arith, common_steps, nat_tests, asked_above es x i)

-- ---- one that has just begun

-- it read nothing
pub crossed_begun : (es : AllBegun) (t seat : ℕ) (x : List ℕ) (i : ℕ) → begun_at es t ≡ None → is_crossed (with_begun t seat es) x i ≡ is_crossed es x i
crossed_begun [] t seat x i none = grind (arith, common_steps)
crossed_begun (e ∷ es) t seat x i none = grind (arith, common_steps, crossed_begun es t seat x i)

pub lookup_begun : (es : AllBegun) (t seat i : ℕ) → begun_at (with_begun t seat es) i ≡ cond (t == i) (Some (new_begun seat)) (begun_at es i)
lookup_begun [] t seat i = grind (arith, common_steps, nat_tests)
lookup_begun (e ∷ es) t seat i = grind (arith, common_steps, nat_tests, lookup_begun es t seat i)
