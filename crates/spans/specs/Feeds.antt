-- Feeds: what was opened, what was told, and what comes next (CockroachDB's changefeeds, their initial scan, and their least
-- gap between resolved messages; the exact order and the complete resolved messages are this project's).
use Rattle.std.specs.Prelude.{ℕ, suc, List, [], ◌∷◌, ◌++◌, map, filter, filter_map, take, Bool, false, not, ◌&&◌, ◌||◌, ◌==◌, ◌-◌, nat_lt, nat_le, max, if◌then◌else◌, Option, Some, None, bytes_eq}
use Rattle.timestamps.specs.declared.row.Row.{Row}
use Rattle.std.specs.List.{list_any}
use Rattle.spans.specs.declared.span.Span.{Span}
use Rattle.spans.specs.declared.calls.messages.Message.{Message}
use Rattle.spans.specs.declared.calls.messages.Message.TheVariants as messages
use Rattle.spans.specs.declared.kind.Kind.{Kind}
use Rattle.spans.specs.Effects.{Effect, Opens, Polls, Cancels}
use Rattle.spans.specs.Transactions.{closed_of}
use Rattle.spans.specs.Streams.{stream_of, snapshot_rows}

-- a feed: whose it is, of which kind, what it watches, and from where on
pub record Feed : Type 0 where
  pub seat : ℕ
  pub kind : Kind
  pub span : Span
  pub cursor : ℕ

abbrev pub feeds_opened : List Effect → ℕ
feeds_opened [] = 0
feeds_opened (Opens f seat kind span cursor ∷ p) = suc (feeds_opened p)
feeds_opened (_ ∷ p) = feeds_opened p

abbrev pub feed_of : List Effect → ℕ → Option Feed
feed_of [] f = None
feed_of (Opens g seat kind span cursor ∷ p) f = if g == f then Some (record { seat = seat; kind = kind; span = span; cursor = cursor }) else feed_of p f
feed_of (_ ∷ p) f = feed_of p f

abbrev pub is_cancelled : List Effect → ℕ → Bool
is_cancelled [] f = false
is_cancelled (Cancels g ∷ p) f = (g == f) || is_cancelled p f
is_cancelled (_ ∷ p) f = is_cancelled p f

-- the messages that f has told, the oldest first
abbrev pub told_to : List Effect → ℕ → List Message
told_to [] f = []
told_to (Polls g max ms ∷ p) f = if g == f then told_to p f ++ ms else told_to p f
told_to (_ ∷ p) f = told_to p f

abbrev pub row_in : Message → Option Row
row_in (messages.Row r) = Some r
row_in (messages.Resolved t) = None

abbrev pub rows_in : List Message → List Row
rows_in ms = filter_map row_in ms

-- the greatest of n and the resolved timestamps
abbrev pub last_resolved : ℕ → List Message → ℕ
last_resolved n [] = n
last_resolved n (messages.Row r ∷ ms) = last_resolved n ms
last_resolved n (messages.Resolved t ∷ ms) = last_resolved (max n t) ms

-- two rows are the same version
abbrev pub same_version : Row → Row → Bool
same_version r s = (r.ts == s.ts) && bytes_eq r.key s.key

-- what a feed tells before its stream: an initial one the map at its cursor, and others nothing
abbrev pub first_rows : Kind → List Effect → Span → ℕ → List Row
first_rows kind p span cursor = if kind.initial then snapshot_rows p span cursor else []

-- the list of the feed: its first rows, and then its stream, as far as n, which is at or above the cursor of an initial feed
abbrev pub list_of : List Effect → Feed → ℕ → List Row
list_of p feed n = first_rows feed.kind p feed.span feed.cursor ++ stream_of p feed.span feed.cursor n

-- what a feed of this kind tells, rows and resolved timestamps, is above its start. An initial one tells its cursor too
abbrev pub start_at : Kind → ℕ → ℕ
start_at kind cursor = if kind.initial then cursor - 1 else cursor

abbrev pub start_of : Feed → ℕ
start_of feed = start_at feed.kind feed.cursor

-- what the feed resolved last, and its start where it resolved nothing
abbrev pub resolved_of : List Effect → ℕ → Feed → ℕ
resolved_of p f feed = last_resolved (start_of feed) (told_to p f)

-- the gap that was asked, and 0 where none was
abbrev pub asked_gap : Option ℕ → ℕ
asked_gap None = 0
asked_gap (Some gap) = gap

-- a resolved message is due: closed is above what was resolved last, and by no less than the gap where there is one
abbrev pub is_due : Kind → ℕ → ℕ → Bool
is_due kind resolved closed = nat_lt resolved closed && nat_le (asked_gap kind.gap) (closed - resolved)

-- the rows of the feed's list at or below closed that were not told
abbrev pub untold_rows : List Effect → ℕ → Feed → List Row
untold_rows p f feed = filter (λ r. not (list_any (same_version r) (rows_in (told_to p f)))) (list_of p feed (closed_of p))

-- the resolved message that is due: closed, where it is above all resolved timestamps told, as far as the kind asks
abbrev pub due_message : List Effect → ℕ → Feed → List Message
due_message p f feed = if is_due feed.kind (resolved_of p f feed) (closed_of p) then messages.Resolved (closed_of p) ∷ [] else []

-- the next messages of the feed, at most max: rows first, and the resolved message only where there is room for it after
-- all of them. That of an earlier closing is not made up for
abbrev pub next_messages : List Effect → ℕ → Feed → ℕ → List Message
next_messages p f feed max = take max (map messages.Row (untold_rows p f feed) ++ due_message p f feed)
