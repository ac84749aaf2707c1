-- The feeds that live, each seen as its place, and how many were opened; what a poll and a report tell of them; and how
-- the order of floors is tied to them.
use Rattle.std.specs.Prelude.{List, None, Option, Some, [], if◌then◌else◌, min, ℕ, ◌∷◌, false, is_some, length, nat_eq, option_map, take, ◌==◌, ◌≡◌, Bool, true, ◌≤◌}
use Rattle.std.specs.BTreeMap.{is_at}
use Rattle.std.specs.BTreeSet.{BTreeSet, contains}
use Rattle.std.specs.Ordering.{nat_cmp, ordering_then}
use Rattle.std.specs.declared.cmp.Ordering.{Ordering}
use Rattle.spans.specs.declared.kind.Kind.{Kind}
use Rattle.spans.specs.declared.span.Span.{Span}
use Rattle.spans.specs.declared.report.FeedReport.{FeedReport}
use Rattle.spans.specs.declared.calls.messages.Message.TheVariants as messages
use Rattle.feed.specs.Prelude.{MAX, Message, Place, VersionName, is_due, start_at, AreLeft, AreThose, Row, Stored, is_committed_in, lookup, messages_left, moved, version_in, feed_report, place_floor}
use Rattle.feed.specs.declared.poll_error.PollError.{PollError}
use Rattle.feed.specs.declared.poll_error.PollError.TheVariants.{NoFeed, NoMemory, NotOwner}

-- a number above the greatest timestamp counts as that
abbrev pub cut_at_max : ℕ → ℕ
cut_at_max n = min n MAX

-- a feed that has just opened
abbrev pub opened_at : ℕ → Kind → Span → ℕ → Place
opened_at seat kind span cursor = record { seat = seat; kind = kind; span = span; cursor = cursor; after = start_at kind cursor; row = None }

-- the last row that was told, where there was one
abbrev pub row_or : Option VersionName → Option VersionName → Option VersionName
row_or None o = o
row_or (Some n) o = Some n

-- the place is behind messages
abbrev pub arrived_at : ℕ → Option VersionName → Place → Place
arrived_at after row place = record { seat = place.seat; kind = place.kind; span = place.span; cursor = place.cursor; after = after; row = row_or row place.row }

-- the resolved message that is due
abbrev pub due_in : Place → ℕ → List Message
due_in place closed = if is_due place.kind place.after closed then messages.Resolved closed ∷ [] else []

abbrev pub due_at : Option ℕ → List Message
due_at None = []
due_at (Some t) = messages.Resolved t ∷ []

-- feeds by number, each with its place
abbrev pub Lives : Type 0
Lives = List (ℕ × Place)

pub record Standing : Type 0 where
  pub opened : ℕ
  pub live : Lives

abbrev pub opened_in : Standing → ℕ
opened_in s = s.opened

-- the place of the feed of a number, where it lives
abbrev pub place_in : Standing → ℕ → Option Place
place_in s f = lookup (nat_eq f) s.live

abbrev pub seat_in : Standing → ℕ → Option ℕ
seat_in s f = option_map (λ (place : Place). place.seat) (place_in s f)

-- f became o, and the others are as they were
abbrev pub IsPut : Standing → Standing → ℕ → Option Place → Type 0
IsPut s s' f o = (g : ℕ) → place_in s' g ≡ (if f == g then o else place_in s g)

-- fs are the feeds that live, n of them
pub record IsCountOf (s : Standing) (n : ℕ) : Type 0 where
  pub feeds : List ℕ
  pub those : AreThose (λ f. is_some (place_in s f)) feeds
  pub count : length feeds ≡ n

-- f lives and is the seat's. It told the first rows left for it and the resolved message, where due; its place is behind
pub record IsPolledBy (store : Stored) (s s' : Standing) (seat f closed max : ℕ) (ms : List Message) : Type 0 where
  pub place : Place
  pub lives : place_in s f ≡ Some place
  pub owner : place.seat ≡ seat
  pub rows : List Row
  pub left : AreLeft (version_in store) (is_committed_in store) place closed rows
  pub told : ms ≡ take max (messages_left closed place rows)
  pub put : IsPut s s' f (Some (moved ms place))

-- why f tells the seat nothing: it doesn't live, another seat opened it, or it is the seat's and memory was wanting
abbrev pub IsUnpolled : Standing → ℕ → ℕ → PollError → Type 0
IsUnpolled s seat f NoFeed = place_in s f ≡ None
IsUnpolled s seat f NotOwner = (owner : ℕ) × (seat_in s f ≡ Some owner) × ((owner == seat) ≡ false)
IsUnpolled s seat f NoMemory = seat_in s f ≡ Some seat

-- these are the first n of the rows that are left at a place
pub record AreNextAt (store : Stored) (place : Place) (through n : ℕ) (rows : List Row) : Type 0 where
  pub all : List Row
  pub left : AreLeft (version_in store) (is_committed_in store) place through all
  pub first : rows ≡ take n all

-- the place of a feed that lives
abbrev pub place_at : Lives → ℕ → Option Place
place_at live f = lookup (nat_eq f) live

-- what is told of it
abbrev pub report_at : Lives → ℕ → Option FeedReport
report_at live f = option_map (feed_report f) (place_at live f)

-- by floor, and then by number
abbrev pub pair_cmp : ℕ × ℕ → ℕ × ℕ → Ordering
pair_cmp p q = ordering_then (nat_cmp p.0 q.0) (nat_cmp p.1 q.1)

-- the feed lives, and its floor is t
abbrev pub is_floor : Option Place → ℕ → Bool
is_floor None t = false
is_floor (Some place) t = place_floor place == t

-- the floor of f was b and is a, and the others are as they were
abbrev pub IsFloorMoved : BTreeSet (ℕ × ℕ) → BTreeSet (ℕ × ℕ) → ℕ → ℕ → ℕ → Type 0
IsFloorMoved floors floors' f b a = (q : ℕ × ℕ) → contains pair_cmp floors' q ≡ (if is_at (pair_cmp (a, f)) q then true else (if is_at (pair_cmp (b, f)) q then false else contains pair_cmp floors q))

-- the order has the floor of each feed that lives, with its number, and nothing else; no feed that lives has a number
-- above `opened`
pub record AreTied (opened : ℕ) (live : Lives) (floors : BTreeSet (ℕ × ℕ)) : Type 0 where
  pub numbered : (f : ℕ) (place : Place) → lookup (nat_eq f) live ≡ Some place → f ≤ opened
  pub each : (t f : ℕ) → contains pair_cmp floors (t, f) ≡ is_floor (lookup (nat_eq f) live) t
