-- Writes, the versions that they make, and the read rule of multiversion timestamp ordering
-- (Bernstein, Hadzilacos and Goodman, section 5.3).
use Rattle.std.specs.Prelude.{ℕ, zero, suc, ◌≡◌, ◌<◌, ◌≤◌, ◌⊎◌, Option, Some, None, List, [], ◌∷◌, Bool, not, ◌&&◌, ◌==◌, if◌then◌else◌, is_some, bytes_eq}
use Rattle.spans.specs.Effects.{After, Effect, Writes}
use Rattle.spans.specs.Keys.{insert_key}
use Rattle.spans.specs.Transactions.{is_committed, is_aborted}

-- a version of a key: its writer's timestamp, and what the write left. Version 0 is before all writes, and has no value
pub record Version : Type 0 where
  pub ts : ℕ
  pub after : After

abbrev pub version_at : ℕ → After → Version
version_at t a = record { ts = t; after = a }

-- the version that is there at t, or else an older one
abbrev pub newer_or : Option After → ℕ → Version → Version
newer_or None t older = older
newer_or (Some a) t older = version_at t a

-- of the versions, the one with the greatest timestamp at most t
abbrev pub newest : (ℕ → Option After) → ℕ → Version
newest versions zero = version_at 0 None
newest versions (suc t) = newer_or (versions (suc t)) (suc t) (newest versions t)

-- the same as a relation, for contracts and for the law: k is the greatest timestamp at most t at which there is a version, and a is what it left
pub record IsNewest (versions : ℕ → Option After) (t k : ℕ) (a : After) : Type 0 where
  pub at_most : k ≤ t
  pub gap : (i : ℕ) → k < i → i ≤ t → versions i ≡ None
  pub has : ((k ≡ 0) × (a ≡ None)) ⊎ ((0 < k) × (versions k ≡ Some a))

-- what t last wrote at x
abbrev pub write_of : List Effect → ℕ → List ℕ → Option After
write_of [] t x = None
write_of (Writes k y a ∷ p) t x = if (k == t) && bytes_eq y x then Some a else write_of p t x
write_of (_ ∷ p) t x = write_of p t x

-- the keys that t wrote, rising
abbrev pub write_set : List Effect → ℕ → List (List ℕ)
write_set [] t = []
write_set (Writes k x a ∷ p) t = if k == t then insert_key x (write_set p t) else write_set p t
write_set (_ ∷ p) t = write_set p t

-- how many keys t wrote: the length of its write set
abbrev pub write_count : List Effect → ℕ → ℕ
write_count [] t = 0
write_count (Writes k x a ∷ p) t = if (k == t) && not (is_some (write_of p t x)) then suc (write_count p t) else write_count p t
write_count (_ ∷ p) t = write_count p t

-- the keys that any transaction wrote, rising
abbrev pub written_keys : List Effect → List (List ℕ)
written_keys [] = []
written_keys (Writes k x a ∷ p) = insert_key x (written_keys p)
written_keys (_ ∷ p) = written_keys p

-- the version of x that t made, unless t is aborted
abbrev pub version_of : List Effect → List ℕ → ℕ → Option After
version_of p x t = if is_aborted p t then None else write_of p t x

-- the version of x that t made, where t is committed
abbrev pub committed_version_of : List Effect → List ℕ → ℕ → Option After
committed_version_of p x t = if is_committed p t then write_of p t x else None

-- the read rule: a read of x at t is given the version with the greatest timestamp at most t
abbrev pub visible : List Effect → List ℕ → ℕ → Version
visible p x t = newest (version_of p x) t

-- the committed value of x at t. Answers use this; the law says that it is the value in the database with one copy
abbrev pub committed_value : List Effect → List ℕ → ℕ → After
committed_value p x t = (newest (committed_version_of p x) t).after

-- a read of x at t would meet another transaction's undecided version (this project: it is answered at once, and unmarked)
abbrev pub is_blocked : List Effect → List ℕ → ℕ → Bool
is_blocked p x t = let k = (visible p x t).ts in not (k == 0) && (not (k == t) && not (is_committed p k))
