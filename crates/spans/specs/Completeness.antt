-- Through where a consumer knows that it was told all, by the messages that it took, also between resolved messages: rows
-- come by timestamp, so the first row of a later timestamp says that all below it was told (this project).
use Rattle.std.specs.Prelude.{ℕ, List, [], ◌∷◌, ◌++◌, Bool, true, false, not, ◌&&◌, ◌==◌, ◌-◌, ◌≡◌, ◌<◌, ◌≤◌, nat_lt, nat_le, filter, Option, Some, None, is_none, if◌then◌else◌}
use Rattle.timestamps.specs.declared.row.Row.{Row}
use Rattle.spans.specs.declared.span.Span.{Span}
use Rattle.spans.specs.declared.calls.messages.Message.{Message}
use Rattle.spans.specs.declared.calls.messages.Message.TheVariants as messages
use Rattle.spans.specs.Effects.{Effect}
use Rattle.spans.specs.Serial.{Map, map_at, span_part}
use Rattle.spans.specs.Feeds.{Feed, feed_of, told_to, rows_in, list_of, start_of}
use Rattle.spans.specs.Collection.{floor_after}
use Rattle.spans.specs.Consumer.{view_of, seed_of, last_row, apply_fault}

-- through where all was told to a consumer of the messages; none below the cursor, as among an initial feed's first rows
abbrev pub complete_after : (start cursor : ℕ) → List Message → Option ℕ
complete_after start cursor ms = let n = floor_after start ms in if nat_lt n cursor then None else Some n

-- the row is there, and of t
abbrev pub is_row_of : Option Row → ℕ → Bool
is_row_of None t = false
is_row_of (Some r) t = r.ts == t

-- t is above the cursor, and none of its rows was taken
abbrev pub is_new : ℕ → List Message → ℕ → Bool
is_new cursor taken t = nat_lt cursor t && not (is_row_of (last_row None taken) t)

-- where the rows are the map as they stand, by the next message: just below the first row of a timestamp above the cursor
abbrev pub ready_after : Span → (start cursor : ℕ) → List Message → Message → Option ℕ
ready_after span start cursor taken (messages.Row r) =
    if is_none (apply_fault span start taken (messages.Row r)) && is_new cursor taken r.ts then Some (r.ts - 1) else None
ready_after span start cursor taken (messages.Resolved t) = None

-- the timestamp of a message
abbrev pub time_of : Message → ℕ
time_of (messages.Row r) = r.ts
time_of (messages.Resolved t) = t

-- every row and every resolved timestamp is above n
abbrev pub AllAbove : ℕ → List Message → Type 0
AllAbove n [] = Unit {0}
AllAbove n (m ∷ ms) = (n < time_of m) × AllAbove n ms

-- next goes on from n: it was opened there on the feed's span, and tells only what is above n, so it is no initial feed
pub record GoesOn (feed next : Feed) (n : ℕ) : Type 0 where
  pub span : next.span ≡ feed.span
  pub cursor : next.cursor ≡ n
  pub start : start_of next ≡ n

-- through where the feed's consumer was told all after the messages
abbrev pub complete_for : Feed → List Message → Option ℕ
complete_for feed ms = complete_after (start_of feed) feed.cursor ms

-- what the feed's consumer has after the messages
abbrev pub seen_after : List Effect → Feed → List Message → Map
seen_after p feed ms = view_of (seed_of feed.kind p feed.span feed.cursor) ms

-- a consumer is right about how far it is complete: what is told later is above that, and the rows told are the list's up to
-- there. Before the first row of a later timestamp it has the map. A feed that goes on from there has the list's rows above,
-- and may repeat some that were told already; then the consumer has the map again after each resolved message
pub record CompleteIsRight (p : List Effect) (f : ℕ) (feed : Feed) : Type 0 where
  pub above : (before rest : List Message) (n : ℕ) → told_to p f ≡ before ++ rest → complete_for feed before ≡ Some n → AllAbove n rest
  pub told : (before rest : List Message) (n : ℕ) → told_to p f ≡ before ++ rest → complete_for feed before ≡ Some n
      → list_of p feed n ≡ filter (λ (r : Row). nat_le r.ts n) (rows_in before)
  pub ready : (before rest : List Message) (r : Row) → told_to p f ≡ before ++ messages.Row r ∷ rest → is_new feed.cursor before r.ts ≡ true
      → (x : List ℕ) → seen_after p feed before x ≡ span_part feed.span (map_at p (r.ts - 1)) x
  pub goes_on : (next : Feed) (n m : ℕ) → feed.cursor ≤ n → GoesOn feed next n → list_of p next m ≡ filter (λ (r : Row). nat_lt n r.ts) (list_of p feed m)
  pub repeats : (before rest : List Message) (n : ℕ) → told_to p f ≡ before ++ rest → complete_for feed before ≡ Some n
      → (g : ℕ) (next : Feed) → feed_of p g ≡ Some next → GoesOn feed next n → (again later : List Message) (t : ℕ) → told_to p g ≡ again ++ messages.Resolved t ∷ later
      → (x : List ℕ) → view_of (seen_after p feed before) again x ≡ span_part feed.span (map_at p t) x
