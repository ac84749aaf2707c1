-- Where a replica begins, and which rows it may begin with.
use Rattle.std.specs.Prelude.{ℕ, List, [], ◌∷◌, true, false, ◌≡◌, Option, Some, None, if◌then◌else◌}
use Rattle.replica.specs.Prelude.{AreRows, Effect, Feed, IsPairIn, KeysRise, Map, Message, Span, in_span, kind_of, map_at, seed_of, start_at, start_of, value_among}
use Rattle.spans.specs.declared.calls.messages.Message.TheVariants as messages
use Rattle.replica.specs.declared.fault.Fault.{Fault}
use Rattle.replica.specs.declared.fault.Fault.TheVariants as faults

-- keys, each with a value
abbrev pub Pairs : Type 0
Pairs = List (List ℕ × List ℕ)

-- a replica's span and cursor, what it takes lies above which timestamp, and where it is complete at first, with which rows
pub record Start : Type 0 where
  pub span : Span
  pub cursor : ℕ
  pub start : ℕ
  pub first : Option ℕ
  pub rows : Map

-- with the rows that the span holds at the cursor
abbrev pub seeded_start : Span → ℕ → List (List ℕ × List ℕ) → Start
seeded_start s cursor pairs = record { span = s; cursor = cursor; start = cursor; first = Some cursor; rows = value_among pairs }

-- with no row, for an initial feed, which tells what the span holds at the cursor
abbrev pub initial_start : Span → ℕ → Start
initial_start s cursor = record { span = s; cursor = cursor; start = start_at (kind_of true None) cursor; first = None; rows = λ x. None }

-- at which timestamp a replica is complete after the messages: at that of a resolved message until a row comes
abbrev pub resolved_at : Option ℕ → List Message → Option ℕ
resolved_at first [] = first
resolved_at first (messages.Row r ∷ ms) = resolved_at None ms
resolved_at first (messages.Resolved t ∷ ms) = resolved_at (Some t) ms

-- the keys lie in the span
abbrev pub AreInside : Span → List (List ℕ × List ℕ) → Type 0
AreInside s pairs = (x v : List ℕ) → IsPairIn pairs x v → in_span s x ≡ true

-- a replica may begin with the rows
pub record MayBegin (s : Span) (pairs : List (List ℕ × List ℕ)) : Type 0 where
  pub rising : KeysRise pairs
  pub inside : AreInside s pairs

-- why a replica doesn't begin with the rows: their keys don't rise, or one lies outside the span, or memory was wanting
abbrev pub IsSeedFault : Span → List (List ℕ × List ℕ) → Fault → Type 0
IsSeedFault s pairs faults.NotAfter = KeysRise pairs → ⊥
IsSeedFault s pairs faults.OutsideSpan = KeysRise pairs × (AreInside s pairs → ⊥)
IsSeedFault s pairs faults.ResolvedBack = ⊥
IsSeedFault s pairs faults.NoMemory = MayBegin s pairs

-- a replica of the feed may begin so: as its consumer is to begin, and complete at the cursor unless the feed tells that
pub record IsStartOf (p : List Effect) (feed : Feed) (s : Start) : Type 0 where
  pub span : s.span ≡ feed.span
  pub cursor : s.cursor ≡ feed.cursor
  pub start : s.start ≡ start_of feed
  pub first : s.first ≡ (if feed.kind.initial then None else Some feed.cursor)
  pub rows : (x : List ℕ) → s.rows x ≡ seed_of feed.kind p feed.span feed.cursor x

-- the feed is no initial one, and the rows are what its span holds at its cursor
abbrev pub IsSeedAt : List Effect → Feed → Pairs → Type 0
IsSeedAt p feed pairs = (feed.kind.initial ≡ false) × AreRows feed.span (map_at p feed.cursor) pairs

-- the start of a feed's replica with these rows
abbrev pub seeded_by : Feed → Pairs → Start
seeded_by feed pairs = seeded_start feed.span feed.cursor pairs
