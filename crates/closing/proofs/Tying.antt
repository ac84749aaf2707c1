-- The two orders of the protections stay tied to each other.
use Rattle.closing.proofs.Common.{common_steps, is_at, nat_cmp}
use Rattle.std.proofs.Common.{Bool, None, Option, Some, arith, cond, false, true, ℕ, ◌≡◌}
use Rattle.closing.specs.Standing.{is_just, pair_cmp}

-- the set has just the timestamps that the map has, each with its number
abbrev pub AreAlike : (ℕ × ℕ → Bool) → (ℕ → Option ℕ) → Type 0
AreAlike c g = (t id : ℕ) → c (t, id) ≡ is_just (g id) t

-- a new number with its timestamp
pub alike_put : (c c' : ℕ × ℕ → Bool) (g g' : ℕ → Option ℕ) (t id : ℕ) → g id ≡ None → AreAlike c g
    → ((q : ℕ × ℕ) → c' q ≡ cond (is_at (pair_cmp (t, id)) q) true (c q)) → ((k : ℕ) → g' k ≡ cond (is_at (nat_cmp id) k) (Some t) (g k)) → AreAlike c' g'
alike_put c c' g g' t id free alike put add s k = grind (arith, common_steps)

-- a number goes with its timestamp
pub alike_taken : (c c' : ℕ × ℕ → Bool) (g g' : ℕ → Option ℕ) (t id : ℕ) → g id ≡ Some t → AreAlike c g
    → ((q : ℕ × ℕ) → c' q ≡ cond (is_at (pair_cmp (t, id)) q) false (c q)) → ((k : ℕ) → g' k ≡ cond (is_at (nat_cmp id) k) None (g k)) → AreAlike c' g'
alike_taken c c' g g' t id stood alike take drop s k = grind (arith, common_steps)

-- a new pair that is taken back
pub alike_again : (c c' c'' : ℕ × ℕ → Bool) (g : ℕ → Option ℕ) (t id : ℕ) → g id ≡ None → AreAlike c g
    → ((q : ℕ × ℕ) → c' q ≡ cond (is_at (pair_cmp (t, id)) q) true (c q)) → ((q : ℕ × ℕ) → c'' q ≡ cond (is_at (pair_cmp (t, id)) q) false (c' q)) → AreAlike c'' g
alike_again c c' c'' g t id free alike put take s k = grind (arith, common_steps)
