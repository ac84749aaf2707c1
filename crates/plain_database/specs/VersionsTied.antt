-- How the store, its open transactions and its numbers of versions are tied to the effects of a history.
use Rattle.std.specs.Prelude.{ℕ, List, ◌≡◌, Option, Some, None, if◌then◌else◌, ◌-◌, Bool, false, true, filter, min, nat_lt, [], ◌∷◌, ◌&&◌, ◌+◌, length, is_none, is_some, nat_le}
use Rattle.std.specs.List.Sorted.{IsStrictlySortedBy}
use Rattle.plain_database.specs.Prelude.{Version, version_at, newest, State, Undecided, After, AllAllowed, Effect, closed_of, is_aborted, is_committed, owner_of, too_late, write_of, write_set, keys_of, nat_cmp, Closes, Collects, HardCloses, VersionName, dead_of, versions_of}
use Rattle.plain_database.specs.Table.{AllBegun, begun_at, committed_at, gone_in, is_crossed, keys_in, seat_in, write_in, in_begun}
use Rattle.plain_database.specs.declared.versions.store.Visible.{Visible}
use Rattle.plain_database.specs.declared.versions.begun.Begun.{Begun}

-- what the store is seen as: how far it is closed, and the transactions
pub record Held : Type 0 where
  pub closed : ℕ
  pub table : AllBegun

-- the version of x that t made
abbrev pub version_in : Held → List ℕ → ℕ → Option After
version_in h x t = if gone_in h.closed t (begun_at h.table t) then None else write_in (begun_at h.table t) x

-- what was found, as a version: that at 0 where nothing was
abbrev pub place_of : Option Visible → Version
place_of None = version_at 0 None
place_of (Some v) = version_at v.ts v.after.now

-- the store says what the definitions say of p (no named type, so what an effect leaves alone stays by definition)
abbrev pub VersionsTied : Held → List Effect → Type 0
VersionsTied h p = record {
  closed_at : h.closed ≡ closed_of p;
  owners : (t : ℕ) → seat_in (begun_at h.table t) ≡ owner_of p t;
  committed : (t : ℕ) → committed_at (begun_at h.table t) ≡ is_committed p t;
  aborted : (t : ℕ) → gone_in h.closed t (begun_at h.table t) ≡ is_aborted p t;
  writes : (t : ℕ) (x : List ℕ) → write_in (begun_at h.table t) x ≡ write_of p t x;
  keys : (t : ℕ) → keys_in (begun_at h.table t) ≡ write_set p t;
  reads : (x : List ℕ) (i : ℕ) → is_crossed h.table x i ≡ too_late p x i;
}

-- the store says this of each history that it is tied to
abbrev pub Says : Held → (List Effect → Type 0) → Type 0
Says h P = (p : List Effect) → AllAllowed p → VersionsTied h p → P p

abbrev pub is_open_state : State → Bool
is_open_state Undecided = true
is_open_state _ = false

-- the transaction is undecided, unless it is closed
abbrev pub is_open : Begun → Bool
is_open b = is_open_state b.state

abbrev pub above_closed : Held → AllBegun
above_closed h = filter (λ e. nat_lt h.closed e.0) h.table

-- the timestamps rise
abbrev pub IsRising : AllBegun → Type 0
IsRising es = IsStrictlySortedBy nat_cmp (keys_of es)

-- how far a closing to n goes where this is the oldest undecided transaction
abbrev pub stopped : ℕ → Option ℕ → ℕ
stopped n None = n
stopped n (Some t) = min n (t - 1)

-- how many versions stand above low and at or below high
abbrev pub versions_between : List Effect → ℕ → ℕ → ℕ
versions_between p low high = length (filter (λ (v : VersionName). nat_lt low v.ts && nat_le v.ts high) (versions_of p))

-- how many stand at or below closed, as the last closing left them (no other event changes how many these are)
abbrev pub passed_then : List Effect → ℕ
passed_then [] = 0
passed_then (Closes at ∷ p) = length (filter (λ (v : VersionName). nat_le v.ts at) (versions_of (Closes at ∷ p)))
passed_then (HardCloses to at ∷ p) = length (filter (λ (v : VersionName). nat_le v.ts at) (versions_of (HardCloses to at ∷ p)))
passed_then (_ ∷ p) = passed_then p

-- how many versions the last collection left dead. (No other event changes how many are dead)
abbrev pub dead_then : List Effect → ℕ
dead_then [] = 0
dead_then (Collects n ∷ p) = length (dead_of (Collects n ∷ p))
dead_then (_ ∷ p) = dead_then p

-- how many more are dead where a collection takes the horizon to n
abbrev pub newly_dead : List Effect → ℕ → ℕ
newly_dead p n = length (dead_of (Collects n ∷ p)) - length (dead_of p)

-- ---- one transaction of the store

-- what stands of what t wrote: nothing where t is aborted
abbrev pub standing : Held → ℕ → Option Begun → List (List ℕ × After)
standing h t o = if gone_in h.closed t o then [] else in_begun [] (λ (b : Begun). b.writes) o

-- how many versions die as a horizon reaches t that wrote these: each delete, and each value that one of them replaces
abbrev pub deaths_by : Held → ℕ → List (List ℕ × After) → ℕ
deaths_by h t ws =
    length (filter (λ (w : List ℕ × After). is_none w.1) ws)
    + length (filter (λ (w : List ℕ × After). is_some (newest (version_in h w.0) (t - 1)).after) ws)
