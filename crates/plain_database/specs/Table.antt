-- What the table of transactions says, and the index of who may have written each key.
use Rattle.std.specs.Prelude.{ℕ, List, Bool, ◌&&◌, bytes_eq, nat_lt, unwrap_or, [], ◌∷◌, ◌++◌, true, false, Option, Some, None, if◌then◌else◌, nat_le, ◌≡◌, ◌≤◌, ◌<◌, is_some}
use Rattle.std.specs.BTreeMap.{is_at, insert_entry}
use Rattle.std.specs.BTreeSet.{BTreeSet, contains}
use Rattle.plain_database.specs.Prelude.{State, Undecided, Committed, Aborted, in_span, key_cmp, lookup, After, keys_of, list_any, nat_cmp}
use Rattle.plain_database.specs.declared.versions.reads.Read.{Read}
use Rattle.plain_database.specs.declared.versions.begun.Begun.{Begun}
use Rattle.plain_database.specs.declared.versions.reads.Read.TheVariants as reads

-- the timestamp of the version that was given of x: 0 where x wasn't found
abbrev pub source_found : List (List ℕ × ℕ) → List ℕ → ℕ
source_found sources x = unwrap_or (lookup (is_at (key_cmp x)) sources) 0

-- the read was given a version of x from below i
abbrev pub is_across : List ℕ → ℕ → Read → Bool
is_across x i (reads.Key y k) = bytes_eq y x && nat_lt k i
is_across x i (reads.Span span sources) = in_span span x && nat_lt (source_found sources x) i

-- the transactions, each with its timestamp
abbrev pub AllBegun : Type 0
AllBegun = List (ℕ × Begun)

-- the transaction of t
abbrev pub begun_at : AllBegun → ℕ → Option Begun
begun_at es t = lookup (is_at (nat_cmp t)) es

-- what g is of the transaction, and d where there is none. (All that is asked of one is asked by this, so that one lemma
-- says what a change leaves alone)
abbrev pub in_begun : {A : Type 0} → A → (Begun → A) → Option Begun → A
in_begun d g None = d
in_begun d g (Some b) = g b

abbrev pub seat_in : Option Begun → Option ℕ
seat_in o = in_begun None (λ (b : Begun). Some b.seat) o

abbrev pub is_committed_state : State → Bool
is_committed_state Committed = true
is_committed_state _ = false

-- aborted, or undecided where it is closed
abbrev pub is_gone_state : Bool → State → Bool
is_gone_state shut Undecided = shut
is_gone_state shut Committed = false
is_gone_state shut Aborted = true

abbrev pub committed_at : Option Begun → Bool
committed_at o = in_begun false (λ (b : Begun). is_committed_state b.state) o

abbrev pub gone_in : ℕ → ℕ → Option Begun → Bool
gone_in closed t o = in_begun false (λ (b : Begun). is_gone_state (nat_le t closed) b.state) o

-- what it wrote at x
abbrev pub write_in : Option Begun → List ℕ → Option After
write_in o x = in_begun None (λ (b : Begun). lookup (is_at (key_cmp x)) b.writes) o

-- the keys that it wrote, rising
abbrev pub keys_in : Option Begun → List (List ℕ)
keys_in o = in_begun [] (λ (b : Begun). keys_of b.writes) o

-- one above i was given a version of x from below i
abbrev pub is_crossed : AllBegun → List ℕ → ℕ → Bool
is_crossed es x i = list_any (λ (e : ℕ × Begun). nat_lt i e.0 && list_any (is_across x i) e.1.reads) es

-- ---- changes

-- the transactions, with f of the one of t, where there is one
abbrev pub changed : (Begun → Begun) → AllBegun → ℕ → AllBegun
changed f [] t = []
changed f (e ∷ es) t = if is_at (nat_cmp t) e.0 then (e.0, f e.1) ∷ es else e ∷ changed f es t

abbrev pub new_begun : ℕ → Begun
new_begun seat = record { seat = seat; state = Undecided; writes = []; reads = [] }

abbrev pub with_begun : ℕ → ℕ → AllBegun → AllBegun
with_begun t seat es = insert_entry nat_cmp es t (new_begun seat)

abbrev pub ended : State → Begun → Begun
ended s b = record b { state = s }

abbrev pub reading : Read → Begun → Begun
reading r b = record b { reads = b.reads ++ r ∷ [] }

abbrev pub writing : List ℕ → After → Begun → Begun
writing x a b = record b { writes = insert_entry key_cmp b.writes x a }

-- each key, with the timestamps that may have written it
abbrev pub Listed : Type 0
Listed = List (List ℕ × BTreeSet ℕ)

abbrev pub is_among : Option (BTreeSet ℕ) → ℕ → Bool
is_among None t = false
is_among (Some ts) t = contains nat_cmp ts t

-- t may have written x
abbrev pub is_listed : Listed → List ℕ → ℕ → Bool
is_listed ws x t = is_among (lookup (is_at (key_cmp x)) ws) t

-- whoever wrote a key is listed there
abbrev pub IsIndexed : AllBegun → Listed → Type 0
IsIndexed es ws = (x : List ℕ) (t : ℕ) → is_some (write_in (begun_at es t) x) ≡ true → is_listed ws x t ≡ true

-- the last one at or below t that passes the test
abbrev pub IsLast : (ℕ → Bool) → ℕ → Option ℕ → Type 0
IsLast test t None = (i : ℕ) → i ≤ t → test i ≡ false
IsLast test t (Some k) = (k ≤ t) × (test k ≡ true) × ((i : ℕ) → k < i → i ≤ t → test i ≡ false)
