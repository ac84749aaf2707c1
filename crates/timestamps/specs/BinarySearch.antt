-- Searching a rising list of timestamps for the place where those above one begin.
use Rattle.std.specs.Prelude.{ℕ, ◌+◌, ◌/◌, ◌<◌, ◌≤◌, ◌≡◌}

-- len timestamps, given by their places, do not fall
abbrev pub DoNotFall : (at : ℕ → ℕ) (len : ℕ) → Type 0
DoNotFall at len = (i j : ℕ) → i ≤ j → j < len → at i ≤ at j

-- the place where those above t begin is one of the size places from low on, or the one behind them
pub record AreLeft (at : ℕ → ℕ) (len t low size : ℕ) : Type 0 where
  pub within : low + size ≤ len
  pub below : (k : ℕ) → k < low → at k ≤ t
  pub above : (k : ℕ) → low + size ≤ k → k < len → t < at k

-- what was left of a list that rises is still left, where the timestamp at the middle is ts
abbrev pub StillLeft : (ts t low size low' size' : ℕ) → Type 0
StillLeft ts t low size low' size' = (at : ℕ → ℕ) (len : ℕ) → DoNotFall at len → at (low + size / 2) ≡ ts → AreLeft at len t low size → AreLeft at len t low' size'
