-- What an engine that forgets keeps of a history, and when such a record fits a history (this project; only the crate
-- `kept` and what stands on it read this). Versions that are
-- dead are gone, and so are transactions at or below closed and marks of readers there; each layer of an engine keeps
-- its part of the record. The length of the history is kept beside it.
use Rattle.std.specs.Prelude.{ℕ, List, [], ◌∷◌, Bool, true, ◌≡◌, ◌<◌, ◌↔◌, nat_lt, if◌then◌else◌, Option, Some, None, option_map}
use Rattle.spans.specs.declared.span.Span.{Span}
use Rattle.spans.specs.declared.kind.Kind.{Kind}
use Rattle.spans.specs.declared.state.State.{State}
use Rattle.spans.specs.declared.state.State.TheVariants as states
use Rattle.spans.specs.declared.calls.messages.Message.{Message}
use Rattle.spans.specs.declared.calls.messages.Message.TheVariants as messages
use Rattle.spans.specs.Effects.{After, Effect}
use Rattle.spans.specs.Transactions.{owner_of, closed_of, is_committed, is_aborted}
use Rattle.spans.specs.Versions.{version_of, committed_version_of}
use Rattle.spans.specs.Reads.{too_late}
use Rattle.spans.specs.Feeds.{Feed, feed_of, feeds_opened, is_cancelled, told_to, resolved_of}
use Rattle.spans.specs.Collection.{Protection, VersionName, version_name, horizon_of, protections_of, protections_made, is_dead}
use Rattle.spans.specs.Consumer.{name_of}

-- a transaction: its owner, and how it stands. What it wrote are the versions at its timestamp
pub record Transaction : Type 0 where
  pub seat : ℕ
  pub state : State

-- a live feed and its place: the greatest of its start and its resolved timestamps, and the name of the row that was told
-- last. The kind and the cursor say what an initial feed tells first, and where it is read
pub record Place : Type 0 where
  pub seat : ℕ
  pub kind : Kind
  pub span : Span
  pub cursor : ℕ
  pub after : ℕ
  pub row : Option VersionName

-- what is kept, as the layers of an engine are seen: a version at a key and a timestamp, whether it is committed, the
-- readers that are marked at a key, the transactions, the protections and the live feeds
pub record Kept : Type 0 where
  pub closed : ℕ
  pub horizon : ℕ
  pub version : List ℕ → ℕ → Option After
  pub committed : List ℕ → ℕ → Bool
  pub marked : List ℕ → ℕ → Bool
  pub transaction : ℕ → Option Transaction
  pub protections : List Protection
  pub protections_made : ℕ
  pub feed : ℕ → Option Place
  pub feeds_opened : ℕ

-- the version of x that t made, unless it is dead
abbrev pub kept_version : List Effect → List ℕ → ℕ → Option After
kept_version p x t = if is_dead p (version_name x t) then None else version_of p x t

-- the seat's transaction of t, and how it stands (in a legal history none is both committed and aborted)
abbrev pub transaction_with : List Effect → ℕ → ℕ → Transaction
transaction_with p t seat = record { seat = seat; state = if is_committed p t then states.Committed else (if is_aborted p t then states.Aborted else states.Undecided) }

-- a transaction above closed
abbrev pub transaction_of : List Effect → ℕ → Option Transaction
transaction_of p t = if nat_lt (closed_of p) t then option_map (transaction_with p t) (owner_of p t) else None

-- the name of the row that was told last, where there was one
abbrev pub last_name : Option VersionName → List Message → Option VersionName
last_name o [] = o
last_name o (messages.Row r ∷ ms) = last_name (Some (name_of r)) ms
last_name o (messages.Resolved t ∷ ms) = last_name o ms

abbrev pub place_with : List Effect → ℕ → Feed → Place
place_with p f feed = record { seat = feed.seat; kind = feed.kind; span = feed.span; cursor = feed.cursor; after = resolved_of p f feed; row = last_name None (told_to p f) }

-- the place of a feed that lives
abbrev pub place_of : List Effect → ℕ → Option Place
place_of p f = if is_cancelled p f then None else option_map (place_with p f) (feed_of p f)

-- a marked reader above i, and no version between the two: a write at i is refused
pub record IsCrossed (marked : ℕ → Bool) (versions : ℕ → Option After) (i : ℕ) : Type 0 where
  pub reader : ℕ
  pub mark : marked reader ≡ true
  pub above : i < reader
  pub none : (n : ℕ) → i < n → n < reader → versions n ≡ None

-- k is what is kept of p. Its marks need only answer for writes that can still come: above closed, and not where a
-- transaction has committed. Those of readers at or below closed are forgotten
pub record IsKeptOf (k : Kept) (p : List Effect) : Type 0 where
  pub closed_at : k.closed ≡ closed_of p
  pub horizon_at : k.horizon ≡ horizon_of p
  pub versions : (x : List ℕ) (t : ℕ) → k.version x t ≡ kept_version p x t
  pub committed : (x : List ℕ) (t : ℕ) (a : After) → k.version x t ≡ Some a → k.committed x t ≡ is_committed p t
  pub marks : (x : List ℕ) (i : ℕ) → closed_of p < i → committed_version_of p x i ≡ None → (too_late p x i ≡ true) ↔ IsCrossed (k.marked x) (k.version x) i
  pub forgotten : (x : List ℕ) (j : ℕ) → k.marked x j ≡ true → closed_of p < j
  pub transactions : (t : ℕ) → k.transaction t ≡ transaction_of p t
  pub protected : k.protections ≡ protections_of p
  pub made : k.protections_made ≡ protections_made p
  pub feeds : (f : ℕ) → k.feed f ≡ place_of p f
  pub opened : k.feeds_opened ≡ feeds_opened p
