-- What a read finds in what is kept, and what the table of transactions answers. Lists that stand for sets.
use Rattle.std.specs.Prelude.{ℕ, List, Bool, true, length, ◌≡◌, ◌↔◌, not, ◌<◌, ◌==◌, ◌&&◌, ◌||◌, nat_lt, nat_le, if◌then◌else◌, Option, Some, None, is_some, false, min, ◌-◌, ◌≤◌}
use Rattle.spans.proofs.Members.{Has, AreDistinct}
use Rattle.spans.proofs.Keyed.{IsIn, RisingKeys}
use Rattle.spans.specs.declared.state.State.{State}
use Rattle.spans.specs.declared.state.State.TheVariants as states
use Rattle.kept.specs.Prelude.{After, Kept, Span, Version, VersionName, in_span, is_delete, newest, Ended, NoTxn, NotOwner, Refusal, Transaction}

-- the list has each thing that passes the test, once, and nothing else
pub record AreThose {A : Type 0} (test : A → Bool) (xs : List A) : Type 0 where
  pub distinct : AreDistinct xs
  pub each : (x : A) → Has x xs ↔ (test x ≡ true)

-- n is how many things pass the test
abbrev pub IsNumberOf : {A : Type 0} → (A → Bool) → ℕ → Type 0
IsNumberOf {A} test n = (xs : List A) × AreThose test xs × (n ≡ length xs)

-- of the kept versions of x, the newest at or below t
abbrev pub seen : Kept → List ℕ → ℕ → Version
seen k x t = newest (k.version x) t

-- the version that is found is another transaction's, which is undecided
abbrev pub is_seen_blocked : Kept → List ℕ → ℕ → Bool
is_seen_blocked k x t = let n = (seen k x t).ts in not (n == 0) && (not (n == t) && not (k.committed x n))

-- the least timestamp above t at which there is a version
abbrev pub IsNextAbove : (ℕ → Option After) → ℕ → Option ℕ → Type 0
IsNextAbove f t None = (n : ℕ) → t < n → f n ≡ None
IsNextAbove f t (Some s) = (t < s) × (is_some (f s) ≡ true) × ((n : ℕ) → t < n → n < s → f n ≡ None)

-- the keys of the span of which a version is kept, rising
pub record AreKeysOf (k : Kept) (span : Span) (keys : List (List ℕ)) : Type 0 where
  pub rising : RisingKeys keys
  pub each : (x : List ℕ) → IsIn x keys ↔ ((in_span span x ≡ true) × (t : ℕ) × (is_some (k.version x t) ≡ true))

-- the kept version of x at t, where it is committed
abbrev pub kept_committed : Kept → List ℕ → ℕ → Option After
kept_committed k x t = if k.committed x t then k.version x t else None

-- of what is kept alone: committed at or below n, and a delete or older than another such version of its key
abbrev pub is_dead_in : Kept → ℕ → List ℕ → ℕ → Bool
is_dead_in k n x t = k.committed x t && (nat_le t n && (is_delete (k.version x t) || nat_lt t (newest (kept_committed k x) n).ts))

-- a kept version that a collection through n drops
abbrev pub is_dropped : Kept → ℕ → VersionName → Bool
is_dropped k n v = is_some (k.version v.key v.ts) && is_dead_in k n v.key v.ts

-- it has committed or was aborted
abbrev pub has_ended : State → Bool
has_ended states.Undecided = false
has_ended states.Committed = true
has_ended states.Aborted = true

-- why a command of the transaction is refused, by what the table has
abbrev pub transaction_refusal : ℕ → Option Transaction → Option Refusal
transaction_refusal seat None = Some NoTxn
transaction_refusal seat (Some n) = if not (n.seat == seat) then Some NotOwner else (if has_ended n.state then Some Ended else None)

-- the first test of a transaction's command that applies
abbrev pub refusal : Kept → ℕ → ℕ → Option Refusal
refusal k seat t = if nat_le t k.closed then Some Ended else transaction_refusal seat (k.transaction t)

-- a transaction that has just begun
abbrev pub new_transaction : ℕ → Transaction
new_transaction seat = record { seat = seat; state = states.Undecided }

-- the transaction is undecided
abbrev pub is_open : Option Transaction → Bool
is_open None = false
is_open (Some n) = not (has_ended n.state)

-- the least timestamp of an undecided transaction
abbrev pub IsOldest : (ℕ → Option Transaction) → Option ℕ → Type 0
IsOldest table None = (t : ℕ) → is_open (table t) ≡ false
IsOldest table (Some o) = (is_open (table o) ≡ true) × ((t : ℕ) → is_open (table t) ≡ true → o ≤ t)

-- up to where closing may go: to, or just below the oldest undecided transaction where that is lower
abbrev pub reach : ℕ → Option ℕ → ℕ
reach to None = to
reach to (Some o) = min to (o - 1)
