-- What the record of a feed says, and how a book of feeds is tied to the effects of a history.
use Rattle.std.specs.Prelude.{ℕ, List, [], ◌∷◌, ◌==◌, max, if◌then◌else◌, Option, Some, None, nat_lt, suc, ◌≡◌, ◌<◌, ◌&&◌, map, nat_le, take, not, false, is_some}
use Rattle.std.specs.List.{AllByRecursion}
use Rattle.spans.specs.declared.kind.Kind.{Kind}
use Rattle.spans.specs.declared.report.FeedReport.{FeedReport}
use Rattle.plain_database.specs.Prelude.{Span, Refusal, NoFeed, FeedCancelled, NotOwner, AllAllowed, first_refusal, Feed, Message, floor_after, is_due, last_name, last_resolved, last_told, start_at, Effect, LiveFeed, Row, closed_of, feed_of, feeds_opened, is_cancelled, live_feeds, next_messages, told_to, untold_rows}
use Rattle.plain_database.specs.declared.feeds.record.FeedRecord.{FeedRecord}
use Rattle.plain_database.specs.declared.feeds.record.Told.{Told}

-- a feed of this kind and cursor was told nothing
abbrev pub fresh_told : Kind → ℕ → Told
fresh_told kind cursor = record { row = None; resolved = start_at kind cursor; latest = None; floor = start_at kind cursor }

-- what more messages leave of what was told
abbrev pub told_more : List Message → Told → Told
told_more ms t = record { row = last_name t.row ms; resolved = last_resolved t.resolved ms; latest = last_told t.latest ms; floor = floor_after t.floor ms }

-- a feed that has just been opened
abbrev pub new_record : ℕ → ℕ → Kind → Span → ℕ → FeedRecord
new_record number seat kind span cursor = record { number = number; seat = seat; kind = kind; span = span; cursor = cursor; told = fresh_told kind cursor }

-- a feed that was told more
abbrev pub telling : List Message → FeedRecord → FeedRecord
telling ms x = record x { told = told_more ms x.told }

-- the records, with the first of this number told more
abbrev pub telling_in : ℕ → List Message → List FeedRecord → List FeedRecord
telling_in f ms [] = []
telling_in f ms (x ∷ xs) = if x.number == f then telling ms x ∷ xs else x ∷ telling_in f ms xs

-- whose the feed is, of which kind, what it watches, and from where on
abbrev pub feed_part : FeedRecord → Feed
feed_part x = record { seat = x.seat; kind = x.kind; span = x.span; cursor = x.cursor }

-- up to where all is told to the feed
abbrev pub floor_in : FeedRecord → ℕ
floor_in x = max x.cursor x.told.floor

-- the timestamp of the resolved message that is due
abbrev pub due_in : FeedRecord → ℕ → Option ℕ
due_in x closed = if is_due x.kind x.told.resolved closed then Some closed else None

-- up to where all was told, where that isn't below the cursor
abbrev pub complete_in : FeedRecord → Option ℕ
complete_in x = if nat_lt x.told.floor x.cursor then None else Some x.told.floor

-- how far the feed has come, and how many rows it has still to tell, where that is known
abbrev pub record_report : Option ℕ → FeedRecord → FeedReport
record_report untold x = record {
  number = x.number;
  seat = x.seat;
  kind = x.kind;
  span = x.span;
  cursor = x.cursor;
  row = x.told.row;
  resolved = x.told.latest;
  complete = complete_in x;
  floor = floor_in x;
  untold = untold;
}

-- what the book has: how many feeds were opened, and the records of those that live, the newest first
pub record Book : Type 0 where
  pub opened : ℕ
  pub live : List FeedRecord

-- the record says what the effects say of feed f, which lives. (A record type without a name: what an effect leaves alone is the same by definition)
abbrev pub IsRecordOf : List Effect → ℕ → FeedRecord → Type 0
IsRecordOf p f x = record {
  feed : feed_of p f ≡ Some (feed_part x);
  live : is_cancelled p f ≡ false;
  told : x.told ≡ told_more (told_to p f) (fresh_told x.kind x.cursor);
}

-- the feed with its number
abbrev pub live_part : FeedRecord → LiveFeed
live_part x = record { number = x.number; cursor = x.cursor }

-- the numbers fall, from below n
abbrev pub AllFall : ℕ → List ℕ → Type 0
AllFall n [] = Unit {0}
AllFall n (m ∷ ms) = (m < n) × AllFall m ms

-- the book has what the effects say of the feeds that live
abbrev pub FeedsTied : Book → List Effect → Type 0
FeedsTied book p = record {
  opened : feeds_opened p ≡ book.opened;
  known : (f : ℕ) → is_some (feed_of p f) ≡ (nat_lt 0 f && nat_le f book.opened);
  live : live_feeds p ≡ map live_part book.live;
  each : AllByRecursion (λ (x : FeedRecord). IsRecordOf p x.number x) book.live;
  falling : AllFall (suc book.opened) (map (λ (x : FeedRecord). x.number) book.live);
}

-- the book says this of the effects that it is tied to
abbrev pub Says : Book → (List Effect → Type 0) → Type 0
Says book P = (p : List Effect) → FeedsTied book p → P p

-- one more effect leads from the book to the other
abbrev pub LeadsTo : Book → Effect → Book → Type 0
LeadsTo book e book' = (p : List Effect) → AllAllowed p → FeedsTied book p → FeedsTied book' (e ∷ p)

-- these are the next messages of the record's feed, where its next rows are these
abbrev pub AreNext : FeedRecord → ℕ → ℕ → List Row → List Message → Type 0
AreNext x max closed rows ms =
    (p : List Effect) (f : ℕ) → IsRecordOf p f x → closed ≡ closed_of p
    → rows ≡ take max (untold_rows p f (feed_part x)) → ms ≡ next_messages p f (feed_part x) max

-- why a poll of f is refused, if it is, where this is the feed of that number
abbrev pub refusal_of_poll : List Effect → ℕ → ℕ → Option Feed → Option Refusal
refusal_of_poll p seat f None = Some NoFeed
refusal_of_poll p seat f (Some feed) = first_refusal ((is_cancelled p f, FeedCancelled) ∷ (not (feed.seat == seat), NotOwner) ∷ [])

-- why a feed of this number can't be cancelled, if it can't
abbrev pub refusal_of_cancel : List Effect → ℕ → Option Refusal
refusal_of_cancel p f = first_refusal ((not (is_some (feed_of p f)), NoFeed) ∷ (is_cancelled p f, FeedCancelled) ∷ [])
