-- Which versions are dead by a horizon, of what a store has alone, and what a collection leaves.
use Rattle.std.specs.Prelude.{ℕ, List, Bool, true, ◌≡◌, ◌&&◌, ◌||◌, ◌==◌, nat_le, nat_lt, if◌then◌else◌, bytes_eq, not, length, Option, Some, None, is_some, is_none}
use Rattle.version_chain.specs.Prelude.{After, AreThose, VersionName, is_delete, list_any, newest}
use Rattle.version_chain.specs.declared.chain.Version.{Version}
use Rattle.version_chain.specs.Versions.{version_of}
use Rattle.version_chain.specs.Stores.{HaveSameMarks, found_in, Stored, after_of, is_committed, version_in, is_committed_in}

-- the version of x at t, where it is committed
abbrev pub committed_in : Stored → List ℕ → ℕ → Option After
committed_in s x t = if is_committed_in s x t then version_in s x t else None

-- committed at or below n, and a delete or older than another such version of its key
abbrev pub is_dead_in : Stored → ℕ → List ℕ → ℕ → Bool
is_dead_in s n x t = is_committed_in s x t && (nat_le t n && (is_delete (version_in s x t) || nat_lt t (newest (committed_in s x) n).ts))

-- there is a version, and it is dead by n
abbrev pub is_dropped_in : Stored → ℕ → VersionName → Bool
is_dropped_in s n v = is_some (version_in s v.key v.ts) && is_dead_in s n v.key v.ts

-- the versions that are dead by n are gone, count of them
pub record IsCollectedIn (s s' : Stored) (n count : ℕ) : Type 0 where
  pub version : (y : List ℕ) (i : ℕ) → version_in s' y i ≡ (if is_dead_in s n y i then None else version_in s y i)
  pub committed : (y : List ℕ) (i : ℕ) (b : After) → version_in s' y i ≡ Some b → is_committed_in s' y i ≡ is_committed_in s y i
  pub dropped : List VersionName
  pub those : AreThose (is_dropped_in s n) dropped
  pub counted : length dropped ≡ count

-- ---- of one chain

-- what a version left, where it is committed
abbrev pub after_if_committed : Option Version → Option After
after_if_committed o = if is_committed o then after_of o else None

-- the timestamp of the newest committed version at or below n, and 0 where there is none
abbrev pub newest_of : List Version → ℕ → ℕ
newest_of vs n = (newest (λ i. after_if_committed (version_of vs i)) n).ts

-- dead by n, where top is the timestamp of the newest committed version at or below n
abbrev pub is_dead_version : ℕ → ℕ → Version → Bool
is_dead_version n top v = v.committed && (nat_le v.ts n && (is_none v.after || nat_lt v.ts top))

-- one that is dead stands at i
abbrev pub is_dead_at : ℕ → ℕ → List Version → ℕ → Bool
is_dead_at n top vs i = list_any (λ (v : Version). (v.ts == i) && is_dead_version n top v) vs

-- ---- while a collection goes on

-- the chain of x lost what is dead by n
abbrev pub IsThinnedAt : Stored → Stored → List ℕ → ℕ → Type 0
IsThinnedAt s s' x n = (y : List ℕ) (i : ℕ) → found_in s' y i ≡ (if bytes_eq x y && is_dead_in s n y i then None else found_in s y i)

-- some of what is dead by n is gone, and the rest of it is dead still
pub record ArePartlyThinned (s s' : Stored) (n : ℕ) : Type 0 where
  pub marks : HaveSameMarks s s'
  pub found : (y : List ℕ) (i : ℕ) → found_in s' y i ≡ (if is_dead_in s n y i && not (is_dead_in s' n y i) then None else found_in s y i)
  pub fewer : (y : List ℕ) (i : ℕ) → is_dead_in s' n y i ≡ true → is_dead_in s n y i ≡ true
