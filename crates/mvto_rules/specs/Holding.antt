-- What the rules hold, as a part of what an engine keeps: all of it but the feeds; what they tell without a command,
-- how far a collection can go, and what a hard closing takes back.
use Rattle.std.specs.Prelude.{Bool, List, None, Option, Some, ℕ, if◌then◌else◌, is_some, true, ◌≡◌, ◌≤◌, ◌⊎◌, map, length, nat_le, ◌&&◌}
use Rattle.spans.specs.declared.calls.commands.Cmd.{Cmd}
use Rattle.spans.specs.declared.calls.replies.Reply.{Reply}
use Rattle.spans.specs.Versions.{Version, newest}
use Rattle.spans.specs.Collection.{Protection}
use Rattle.spans.specs.Transactions.{least_of}
use Rattle.mvto_rules.specs.Prelude.{nothing_kept, After, Del, IsAlike, IsStep, Kept, Put, Standing, Stored, Transaction, closed_in, is_committed_in, made_in, marked_in, protections_in, transaction_in, version_in, kept_committed, or_min, AreThose, IsForgotten, Table, is_open}
use Rattle.mvto_rules.specs.declared.rules.Rules.{Rules}

-- what the rules hold
abbrev pub versions_of : Rules → Stored
versions_of r = r.store

abbrev pub marked_of : Rules → List ℕ → ℕ → Bool
marked_of r = marked_in r.store

abbrev pub transactions_of : Rules → ℕ → Option Transaction
transactions_of r = transaction_in r.txns

abbrev pub closing_of : Rules → Standing
closing_of r = r.closing

abbrev pub horizon_of : Rules → ℕ
horizon_of r = r.horizon

-- k with what the rules hold in its place
abbrev pub holding : Kept → Rules → Kept
holding k r = record k {
  closed = closed_in (closing_of r);
  horizon = horizon_of r;
  version = version_in (versions_of r);
  committed = is_committed_in (versions_of r);
  marked = marked_of r;
  transaction = transactions_of r;
  protections = protections_in (closing_of r);
  protections_made = made_in (closing_of r);
}

-- what the rules hold, and no feed beside it
abbrev pub held : Rules → Kept
held r = holding nothing_kept r

-- what the rules hold has it so, whatever else is kept beside it
abbrev pub Holds : Rules → (Kept → Type 0) → Type 0
Holds r P = (k : Kept) → P (holding k r)

-- r became r', and with that what is kept changed so
abbrev pub Changes : Rules → Rules → (Kept → Kept → Type 0) → Type 0
Changes r r' R = (k : Kept) → R (holding k r) (holding k r')

-- what is kept is as it was
abbrev pub Stays : Rules → Rules → Type 0
Stays r r' = Changes r r' IsAlike

-- r became r' by a seat's command, which is answered by this reply
abbrev pub Steps : Rules → Rules → ℕ → Cmd → Reply → Type 0
Steps r r' seat cmd reply = Changes r r' (λ k k'. IsStep k k' seat cmd reply)

-- the command that leaves this of a key: a delete where there is no value
abbrev pub write_of : ℕ → List ℕ → After → Cmd
write_of t x None = Del t x
write_of t x (Some v) = Put t x v

-- the timestamp of a version that has a value
abbrev pub value_at : Version → Option ℕ
value_at n = if is_some n.after then Some n.ts else None

-- of the kept versions of x that are committed, the newest at or below t, where that has a value
abbrev pub kept_value_version : Kept → List ℕ → ℕ → Option ℕ
kept_value_version k x t = value_at (newest (kept_committed k x) t)

-- the greatest timestamp that has a transaction, or closed where that isn't below it
pub record IsReachedIn (k : Kept) (n : ℕ) : Type 0 where
  pub closed : k.closed ≤ n
  pub begun : (t : ℕ) → is_some (k.transaction t) ≡ true → t ≤ n
  pub least : (n ≡ k.closed) ⊎ (is_some (k.transaction n) ≡ true)

-- how far a collection can go: it passes neither closed, nor the least protection, nor the least floor of the feeds
pub record IsLimit (c : Standing) (floor : Option ℕ) (limit : ℕ) : Type 0 where
  pub protection : Option ℕ
  pub least : (n : ℕ) → or_min protection n ≡ least_of n (map (λ (p : Protection). p.at) (protections_in c))
  pub is : limit ≡ or_min protection (or_min floor (closed_in c))

-- a hard closing at to takes back what the transaction of t wrote: it is undecided, and at or below to
abbrev pub is_taken_back : Table → ℕ → ℕ → Bool
is_taken_back table to t = nat_le t to && is_open (transaction_in table t)

-- what the transactions of these timestamps wrote is gone
pub record AreTakenBack (s s' : Stored) (among : ℕ → Bool) : Type 0 where
  pub version : (y : List ℕ) (i : ℕ) → version_in s' y i ≡ (if among i then None else version_in s y i)
  pub committed : (y : List ℕ) (i : ℕ) (b : After) → version_in s' y i ≡ Some b → is_committed_in s' y i ≡ is_committed_in s y i

-- how many transactions a hard closing at to takes back
pub record IsCountTakenBack (table : Table) (to count : ℕ) : Type 0 where
  pub cut : List ℕ
  pub those : AreThose (is_taken_back table to) cut
  pub counted : length cut ≡ count

-- of each key the marks through n are forgotten, and those above it stand
abbrev pub AreMarksForgotten : Rules → Rules → ℕ → Type 0
AreMarksForgotten r r' n = (x : List ℕ) → IsForgotten (marked_of r x) (marked_of r' x) n
