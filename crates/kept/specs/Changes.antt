-- What each effect changes of what is kept: k is what was kept before it, and k' what is kept after it. The last field of
-- each record says that all else is as it was. Whether a version is committed is asked only where there is one.
use Rattle.std.specs.Prelude.{List, None, Some, bytes_eq, false, filter, if◌then◌else◌, nat_le, nat_lt, not, option_map, suc, true, ℕ, ◌&&◌, ◌==◌, ◌||◌, ◌∷◌, ◌≡◌}
use Rattle.kept.specs.Prelude.{After, Kept, Kind, Message, Protection, Span, Transaction, in_span, start_at}
use Rattle.kept.specs.Finding.{is_dead_in, is_open, new_transaction}
use Rattle.kept.specs.Marks.{IsForgotten, IsNoted}
use Rattle.kept.specs.Places.{moved}
use Rattle.spans.specs.declared.state.State.TheVariants as states

-- all is as it was
pub record IsAlike (k k' : Kept) : Type 0 where
  pub closed : k'.closed ≡ k.closed
  pub horizon : k'.horizon ≡ k.horizon
  pub version : (y : List ℕ) (i : ℕ) → k'.version y i ≡ k.version y i
  pub committed : (y : List ℕ) (i : ℕ) (b : After) → k.version y i ≡ Some b → k'.committed y i ≡ k.committed y i
  pub marked : (y : List ℕ) (n : ℕ) → k'.marked y n ≡ k.marked y n
  pub transaction : (i : ℕ) → k'.transaction i ≡ k.transaction i
  pub protections : k'.protections ≡ k.protections
  pub protections_made : k'.protections_made ≡ k.protections_made
  pub feed : (f : ℕ) → k'.feed f ≡ k.feed f
  pub feeds_opened : k'.feeds_opened ≡ k.feeds_opened

-- the transaction of t is there, just begun
pub record IsBegun (k k' : Kept) (t seat : ℕ) : Type 0 where
  pub transaction : (i : ℕ) → k'.transaction i ≡ (if t == i then Some (new_transaction seat) else k.transaction i)
  pub rest : k' ≡ record k { transaction = k'.transaction }

-- t is noted as a reader of x
pub record IsReadBy (k k' : Kept) (t : ℕ) (x : List ℕ) : Type 0 where
  pub noted : IsNoted k x t (k'.marked x)
  pub others : (y : List ℕ) → bytes_eq x y ≡ false → (n : ℕ) → k'.marked y n ≡ k.marked y n
  pub rest : k' ≡ record k { marked = k'.marked }

-- t is noted as a reader of every key of the span
pub record IsScannedBy (k k' : Kept) (t : ℕ) (span : Span) : Type 0 where
  pub noted : (y : List ℕ) → in_span span y ≡ true → IsNoted k y t (k'.marked y)
  pub others : (y : List ℕ) → in_span span y ≡ false → (n : ℕ) → k'.marked y n ≡ k.marked y n
  pub rest : k' ≡ record k { marked = k'.marked }

-- t has an undecided version of x
pub record IsWritten (k k' : Kept) (t : ℕ) (x : List ℕ) (a : After) : Type 0 where
  pub version : (y : List ℕ) (i : ℕ) → k'.version y i ≡ (if (t == i) && bytes_eq x y then Some a else k.version y i)
  pub committed : (y : List ℕ) (i : ℕ) (b : After) → k'.version y i ≡ Some b → k'.committed y i ≡ (if (t == i) && bytes_eq x y then false else k.committed y i)
  pub rest : k' ≡ record k { version = k'.version; committed = k'.committed }

-- the versions of t are committed, and so is t
pub record IsCommittedBy (k k' : Kept) (t : ℕ) : Type 0 where
  pub version : (y : List ℕ) (i : ℕ) → k'.version y i ≡ k.version y i
  pub committed : (y : List ℕ) (i : ℕ) (b : After) → k.version y i ≡ Some b → k'.committed y i ≡ ((t == i) || k.committed y i)
  pub transaction : (i : ℕ) → k'.transaction i ≡ (if t == i then option_map (λ (n : Transaction). record n { state = states.Committed }) (k.transaction i) else k.transaction i)
  pub rest : k' ≡ record k { version = k'.version; committed = k'.committed; transaction = k'.transaction }

-- the versions of t are gone, and t is aborted
pub record IsAbortedBy (k k' : Kept) (t : ℕ) : Type 0 where
  pub version : (y : List ℕ) (i : ℕ) → k'.version y i ≡ (if t == i then None else k.version y i)
  pub committed : (y : List ℕ) (i : ℕ) (b : After) → k'.version y i ≡ Some b → k'.committed y i ≡ k.committed y i
  pub transaction : (i : ℕ) → k'.transaction i ≡ (if t == i then option_map (λ (n : Transaction). record n { state = states.Aborted }) (k.transaction i) else k.transaction i)
  pub rest : k' ≡ record k { version = k'.version; committed = k'.committed; transaction = k'.transaction }

-- transactions at or below n are forgotten, and so are marks of readers there
pub record IsClosedAt (k k' : Kept) (n : ℕ) : Type 0 where
  pub marked : (y : List ℕ) → IsForgotten (k.marked y) (k'.marked y) n
  pub transaction : (i : ℕ) → k'.transaction i ≡ (if nat_lt n i then k.transaction i else None)
  pub rest : k' ≡ record k { closed = n; marked = k'.marked; transaction = k'.transaction }

-- the same, and the versions of undecided transactions at or below to are gone
pub record IsHardClosedAt (k k' : Kept) (to n : ℕ) : Type 0 where
  pub version : (y : List ℕ) (i : ℕ) → k'.version y i ≡ (if nat_le i to && is_open (k.transaction i) then None else k.version y i)
  pub committed : (y : List ℕ) (i : ℕ) (b : After) → k'.version y i ≡ Some b → k'.committed y i ≡ k.committed y i
  pub marked : (y : List ℕ) → IsForgotten (k.marked y) (k'.marked y) n
  pub transaction : (i : ℕ) → k'.transaction i ≡ (if nat_lt n i then k.transaction i else None)
  pub rest : k' ≡ record k { closed = n; version = k'.version; committed = k'.committed; marked = k'.marked; transaction = k'.transaction }

-- the versions that are dead by the horizon n are gone
pub record IsCollectedTo (k k' : Kept) (n : ℕ) : Type 0 where
  pub version : (y : List ℕ) (i : ℕ) → k'.version y i ≡ (if is_dead_in k n y i then None else k.version y i)
  pub committed : (y : List ℕ) (i : ℕ) (b : After) → k'.version y i ≡ Some b → k'.committed y i ≡ k.committed y i
  pub rest : k' ≡ record k { horizon = n; version = k'.version; committed = k'.committed }

-- one protection more
abbrev pub IsProtectedBy : Kept → Kept → ℕ → ℕ → Type 0
IsProtectedBy k k' id t = k' ≡ record k { protections = record { id = id; at = t } ∷ k.protections; protections_made = suc k.protections_made }

-- the protection is gone
abbrev pub IsReleasedFrom : Kept → Kept → ℕ → Type 0
IsReleasedFrom k k' id = k' ≡ record k { protections = filter (λ (n : Protection). not (n.id == id)) k.protections }

-- one feed more, at its start
pub record IsOpenedAt (k k' : Kept) (f seat : ℕ) (kind : Kind) (span : Span) (cursor : ℕ) : Type 0 where
  pub feed : (g : ℕ) → k'.feed g ≡ (if f == g then Some (record { seat = seat; kind = kind; span = span; cursor = cursor; after = start_at kind cursor; row = None }) else k.feed g)
  pub rest : k' ≡ record k { feed = k'.feed; feeds_opened = suc k.feeds_opened }

-- the place of f is after the messages
pub record IsMovedBy (k k' : Kept) (f : ℕ) (ms : List Message) : Type 0 where
  pub feed : (g : ℕ) → k'.feed g ≡ (if f == g then option_map (moved ms) (k.feed g) else k.feed g)
  pub rest : k' ≡ record k { feed = k'.feed }

-- the feed is gone
pub record IsCancelledFrom (k k' : Kept) (f : ℕ) : Type 0 where
  pub feed : (g : ℕ) → k'.feed g ≡ (if f == g then None else k.feed g)
  pub rest : k' ≡ record k { feed = k'.feed }
