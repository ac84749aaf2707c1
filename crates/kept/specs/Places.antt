-- What the place of a live feed answers. What a collection drops, and what holds it back.
use Rattle.std.specs.Prelude.{Bool, List, None, Option, Some, is_some, length, max, min, nat_lt, take, true, ℕ, ◌&&◌, ◌++◌, ◌-◌, ◌↔◌, ◌≡◌, ◌<◌, ◌≤◌, ◌⊎◌, map}
use Rattle.spans.specs.Consumer.{is_after_name}
use Rattle.spans.proofs.StreamOrder.{IsRowIn, RisingRows}
use Rattle.spans.specs.Transactions.{least_of}
use Rattle.kept.specs.Prelude.{After, Kept, LiveFeed, Message, Place, Row, VersionName, in_span, last_name, last_resolved, newest, Protection}
use Rattle.kept.specs.Finding.{is_dropped, AreThose}

-- more rows of the last row's timestamp may follow
abbrev pub row_floor : Option VersionName → ℕ
row_floor None = 0
row_floor (Some n) = n.ts - 1

-- up to where all is told, and never below the cursor, where an initial feed's first rows are read
abbrev pub place_floor : Place → ℕ
place_floor place = max place.cursor (max place.after (row_floor place.row))

-- the least of what there is, if anything
abbrev pub or_min : Option ℕ → ℕ → ℕ
or_min None n = n
or_min (Some m) n = min m n

-- the least floor of the live feeds, where there are any
abbrev pub IsLeastFloor : (ℕ → Option Place) → Option ℕ → Type 0
IsLeastFloor feed None = (f : ℕ) → feed f ≡ None
IsLeastFloor feed (Some m) = ((f : ℕ) × (place : Place) × (feed f ≡ Some place) × (place_floor place ≡ m)) × ((f : ℕ) (place : Place) → feed f ≡ Some place → m ≤ place_floor place)

-- the place after messages
abbrev pub moved : List Message → Place → Place
moved ms place = record place { after = last_resolved place.after ms; row = last_name place.row ms }

-- the feed of this number and cursor, as it is listed
abbrev pub live_feed : ℕ → ℕ → LiveFeed
live_feed f c = record { number = f; cursor = c }

-- a row that comes after the place
abbrev pub is_beyond : Place → Row → Bool
is_beyond place r = nat_lt place.after r.ts && is_after_name place.row r

-- a value of the feed's span that is found at the cursor of an initial feed, as a row beyond the place
pub record IsFirst (version : List ℕ → ℕ → Option After) (place : Place) (r : Row) : Type 0 where
  pub initial : place.kind.initial ≡ true
  pub at : r.ts ≡ place.cursor
  pub found : (newest (version r.key) place.cursor).after ≡ r.after
  pub value : is_some r.after ≡ true
  pub inside : in_span place.span r.key ≡ true
  pub later : is_beyond place r ≡ true

-- a committed version of the feed's span that is kept, above the cursor, beyond the place and not above a timestamp
pub record IsStored (version : List ℕ → ℕ → Option After) (committed : List ℕ → ℕ → Bool) (place : Place) (through : ℕ) (r : Row) : Type 0 where
  pub there : version r.key r.ts ≡ Some r.after
  pub done : committed r.key r.ts ≡ true
  pub inside : in_span place.span r.key ≡ true
  pub above : place.cursor < r.ts
  pub later : is_beyond place r ≡ true
  pub low : r.ts ≤ through

-- a row that is left for a feed at the place
abbrev pub IsLeft : (version : List ℕ → ℕ → Option After) → (committed : List ℕ → ℕ → Bool) → Place → ℕ → Row → Type 0
IsLeft version committed place through r = IsFirst version place r ⊎ IsStored version committed place through r

-- these are the rows that are left for a feed at the place, in their order
pub record AreLeft (version : List ℕ → ℕ → Option After) (committed : List ℕ → ℕ → Bool) (place : Place) (through : ℕ) (rows : List Row) : Type 0 where
  pub rising : RisingRows rows
  pub each : (r : Row) → IsRowIn r rows ↔ IsLeft version committed place through r

-- the first of them: what an initial feed has left of the values at its cursor, keys rising
pub record AreFirsts (version : List ℕ → ℕ → Option After) (place : Place) (rows : List Row) : Type 0 where
  pub rising : RisingRows rows
  pub each : (r : Row) → IsRowIn r rows ↔ IsFirst version place r

-- and the others: the stored rows
pub record AreStored (version : List ℕ → ℕ → Option After) (committed : List ℕ → ℕ → Bool) (place : Place) (through : ℕ) (rows : List Row) : Type 0 where
  pub rising : RisingRows rows
  pub each : (r : Row) → IsRowIn r rows ↔ IsStored version committed place through r

-- the two parts of what is left for a feed at the place
abbrev pub AreParts : Kept → Place → List Row → List Row → Type 0
AreParts k place firsts stored = AreFirsts k.version place firsts × AreStored k.version k.committed place k.closed stored

-- what is left for a feed at the place, through closed
abbrev pub AreLeftAt : Kept → Place → List Row → Type 0
AreLeftAt k place rows = AreLeft k.version k.committed place k.closed rows

-- at most max of the two parts together: of the second only as many as the first leaves room for
abbrev pub first_of : ℕ → List Row → List Row → List Row
first_of max firsts stored = take max firsts ++ take (max - length firsts) stored

-- rows begin as those that are left for a feed at the place do: as far as max, or up to their end
pub record AreNext (k : Kept) (place : Place) (max : ℕ) (rows : List Row) : Type 0 where
  pub all : List Row
  pub left : AreLeft k.version k.committed place k.closed all
  pub first : take max rows ≡ take max all

-- how far a collection through to reaches, by the least protection and the least floor of a live feed, where there are any
abbrev pub reached : Kept → ℕ → Option ℕ → Option ℕ → ℕ
reached k to protection floor = max k.horizon (or_min protection (or_min floor (min to k.closed)))

-- protection is the least protected timestamp and floor the least floor of a live feed, if any; dropped are the kept
-- versions that are dead by the horizon
pub record IsCollected (k : Kept) (horizon : ℕ) (protection floor : Option ℕ) (dropped : List VersionName) : Type 0 where
  pub least_protection : (n : ℕ) → or_min protection n ≡ least_of n (map (λ (n : Protection). n.at) k.protections)
  pub lowest_floor : IsLeastFloor k.feed floor
  pub drops : AreThose (is_dropped k horizon) dropped
