-- The order of the floors stays tied to the feeds.
use Rattle.std.proofs.Common.{Bool, List, None, Option, Some, arith, cond, false, true, ℕ, ◌+◌, ◌≡◌}
use Rattle.std.specs.Prelude.{nat_eq}
use Rattle.feed.proofs.Common.{BTreeSet, Place, contains, is_at, lookup, nat_tests, place_floor}
use Rattle.feed.specs.Standing.{AreTied, IsFloorMoved, pair_cmp}

-- f became o
abbrev pub IsSet : List (ℕ × Place) → List (ℕ × Place) → ℕ → Option Place → Type 0
IsSet es fs f o = (k : ℕ) → lookup (nat_eq k) fs ≡ cond (nat_eq f k) o (lookup (nat_eq k) es)

-- the floor of f at t was put in, or taken out
abbrev pub IsFloorSet : BTreeSet (ℕ × ℕ) → BTreeSet (ℕ × ℕ) → ℕ → ℕ → Bool → Type 0
IsFloorSet floors floors' t f there = (q : ℕ × ℕ) → contains pair_cmp floors' q ≡ cond (is_at (pair_cmp (t, f)) q) there (contains pair_cmp floors q)

-- a new feed with its floor
pub tied_put : (opened t : ℕ) (es fs : List (ℕ × Place)) (floors floors' : BTreeSet (ℕ × ℕ)) (l : Place) → AreTied opened es floors → place_floor l ≡ t → IsFloorSet floors floors' t (opened + 1) true → IsSet es fs (opened + 1) (Some l) → AreTied (opened + 1) fs floors'
tied_put opened t es fs floors floors' l tied floor put set = record {
  numbered = λ k l is. grind (arith, nat_tests, set k, tied.numbered k l);
  each = λ s k. grind (arith, nat_tests, put (s, k), set k, tied.each s k, tied.numbered (opened + 1));
}

-- a feed goes with its floor
pub tied_taken : (opened t f : ℕ) (es fs : List (ℕ × Place)) (floors floors' : BTreeSet (ℕ × ℕ)) (l : Place) → AreTied opened es floors → place_floor l ≡ t → lookup (nat_eq f) es ≡ Some l → IsFloorSet floors floors' t f false → IsSet es fs f None → AreTied opened fs floors'
tied_taken opened t f es fs floors floors' l tied floor stood taken set = record {
  numbered = λ k l is. grind (arith, nat_tests, set k, tied.numbered k l);
  each = λ s k. grind (arith, nat_tests, taken (s, k), set k, tied.each s k);
}

-- a feed moves: its floor stays
pub floor_stays : (floors : BTreeSet (ℕ × ℕ)) (t f : ℕ) → contains pair_cmp floors (t, f) ≡ true → IsFloorMoved floors floors f t t
floor_stays floors t f has q = grind (arith, nat_tests)

-- or is put in elsewhere, and taken out where it was
pub floor_moves : (floors floors' floors'' : BTreeSet (ℕ × ℕ)) (b a f : ℕ) → (b ≡ a → ⊥) → IsFloorSet floors floors' a f true → IsFloorSet floors' floors'' b f false → IsFloorMoved floors floors'' f b a
floor_moves floors floors' floors'' b a f apart put taken q = grind (arith, nat_tests, put q, taken q)

pub tied_moved : (opened b a f : ℕ) (es fs : List (ℕ × Place)) (floors floors' : BTreeSet (ℕ × ℕ)) (l l' : Place) → AreTied opened es floors → place_floor l ≡ b → place_floor l' ≡ a → lookup (nat_eq f) es ≡ Some l → IsFloorMoved floors floors' f b a → IsSet es fs f (Some l') → AreTied opened fs floors'
tied_moved opened b a f es fs floors floors' l l' tied floor floor' stood moved set = record {
  numbered = λ k l is. grind (arith, nat_tests, set k, tied.numbered k l, tied.numbered f);
  each = λ s k. grind (arith, nat_tests, moved (s, k), set k, tied.each s k);
}
