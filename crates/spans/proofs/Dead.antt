-- What is dead, and that no read misses it: from the horizon on, what is left has the values of all.
use Rattle.spans.proofs.Common.{and_from, common_steps, eqb-true, le-leb, lt-ltb, ltb-true, or_right}
use Rattle.std.proofs.Common.{◌≡◌, ℕ, ◌<◌, ◌≤◌, ◌⊎◌, true, List, Some, None, arith}
use Rattle.spans.specs.Effects.{After, Effect}
use Rattle.spans.specs.Transactions.{is_committed}
use Rattle.spans.specs.Versions.{newest, IsNewest, write_of, committed_version_of}
use Rattle.spans.specs.Collection.{version_name, horizon_of, is_delete, is_dead}
use Rattle.spans.specs.Promises.{left_version_of}
use Rattle.spans.proofs.Steps.{newest_is, newest_at, newest_reaches}

-- a committed version is what a committed transaction wrote
pub committed_is : (p : List Effect) (x : List ℕ) (i : ℕ) (a : After) → committed_version_of p x i ≡ Some a → (is_committed p i ≡ true) × (write_of p i x ≡ Some a)
committed_is p x i a h = grind (arith, common_steps)

-- what is dead
pub record IsDropped (p : List Effect) (x : List ℕ) (i : ℕ) : Type 0 where
  pub committed : is_committed p i ≡ true
  pub low : i ≤ horizon_of p
  pub why : (is_delete (write_of p i x) ≡ true) ⊎ (i < (newest (committed_version_of p x) (horizon_of p)).ts)

-- a dead version was dropped, and why
pub dead_is : (p : List Effect) (x : List ℕ) (i : ℕ) → is_dead p (version_name x i) ≡ true → IsDropped p x i
dead_is p x i is = grind (arith, common_steps)

-- a committed version that is older than another one at or below the horizon is dead
pub older_dead : (p : List Effect) (x : List ℕ) (i : ℕ) → is_committed p i ≡ true → i ≤ horizon_of p → i < (newest (committed_version_of p x) (horizon_of p)).ts → is_dead p (version_name x i) ≡ true
older_dead p x i is low below = and_from _ _ is (and_from _ _ (le-leb i (horizon_of p) low) (or_right _ _ (lt-ltb i _ below)))

-- where there is no committed version none is left
no_left : (p : List Effect) (x : List ℕ) (i : ℕ) → committed_version_of p x i ≡ None → left_version_of p x i ≡ None
no_left p x i none = grind (arith, common_steps)

-- below a committed version at or below the horizon none is left
older_gone : (p : List Effect) (x : List ℕ) (k : ℕ) (a : After) → committed_version_of p x k ≡ Some a → k ≤ horizon_of p → (i : ℕ) → i < k → left_version_of p x i ≡ None
older_gone p x k a is low i below =
    let top = newest_reaches (committed_version_of p x) (horizon_of p) k a low is in grind (arith, common_steps, no_left, older_dead, committed_is)

-- the newest committed version is dead only as a delete, and then nothing is left at or below it
newest_dropped : (p : List Effect) (x : List ℕ) (t k : ℕ) (a : After) → horizon_of p ≤ t → IsNewest (committed_version_of p x) t k a → committed_version_of p x k ≡ Some a
    → is_dead p (version_name x k) ≡ true → (a ≡ None) × ((i : ℕ) → i ≤ t → left_version_of p x i ≡ None)
newest_dropped p x t k a high m is dead' = grind (arith, common_steps, dead_is, newest_is, committed_is, no_left, ltb-true, eqb-true, older_gone)

-- from the horizon on what is left has the value of all committed versions
pub left_newest : (p : List Effect) (x : List ℕ) (t : ℕ) → horizon_of p ≤ t → (newest (left_version_of p x) t).after ≡ (newest (committed_version_of p x) t).after
left_newest p x t high = grind (arith, common_steps, newest_is, newest_at, no_left, newest_dropped)
