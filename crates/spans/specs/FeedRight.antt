-- When a feed is right. The law says it of every legal history, so also of all longer ones: that a resolved timestamp is
-- closed is what makes it hold of those.
use Rattle.std.specs.Prelude.{ℕ, List, [], ◌∷◌, ◌++◌, ◌+◌, length, max, false, ◌≡◌, ◌<◌, ◌≤◌}
use Rattle.timestamps.specs.declared.row.Row.{Row}
use Rattle.spans.specs.declared.calls.messages.Message.{Message}
use Rattle.spans.specs.declared.calls.messages.Message.TheVariants as messages
use Rattle.spans.specs.declared.kind.Kind.{Kind}
use Rattle.spans.specs.Effects.{Effect, Polls}
use Rattle.spans.specs.Transactions.{closed_of}
use Rattle.spans.specs.Feeds.{Feed, is_cancelled, told_to, rows_in, list_of, start_of, resolved_of, untold_rows, due_message, asked_gap}

-- the rows before each resolved message are exactly the list's rows at or below it; before are the rows told earlier
abbrev pub DividesList : List Effect → Feed → List Row → List Message → Type 0
DividesList p feed before [] = Unit {0}
DividesList p feed before (messages.Row r ∷ ms) = DividesList p feed (before ++ r ∷ []) ms
DividesList p feed before (messages.Resolved t ∷ ms) = (before ≡ list_of p feed t) × DividesList p feed before ms

-- how far apart the resolved timestamps of a feed of this kind are at least
abbrev pub least_gap : Kind → ℕ
least_gap kind = max 1 (asked_gap kind.gap)

-- resolved timestamps rise above n, each by the gap at least
abbrev pub ResolvedApart : ℕ → ℕ → List Message → Type 0
ResolvedApart gap n [] = Unit {0}
ResolvedApart gap n (messages.Row r ∷ ms) = ResolvedApart gap n ms
ResolvedApart gap n (messages.Resolved t ∷ ms) = (n + gap ≤ t) × ResolvedApart gap t ms

-- every row is above t
abbrev pub RowsAreAbove : ℕ → List Message → Type 0
RowsAreAbove t [] = Unit {0}
RowsAreAbove t (messages.Row r ∷ ms) = (t < r.ts) × RowsAreAbove t ms
RowsAreAbove t (messages.Resolved n ∷ ms) = RowsAreAbove t ms

-- after each resolved message stand only rows above it
abbrev pub RowsFollowResolved : List Message → Type 0
RowsFollowResolved [] = Unit {0}
RowsFollowResolved (messages.Row r ∷ ms) = RowsFollowResolved ms
RowsFollowResolved (messages.Resolved t ∷ ms) = RowsAreAbove t ms × RowsFollowResolved ms

-- f tells nothing after it was cancelled
abbrev pub IsSilentAfterCancel : List Effect → ℕ → Type 0
IsSilentAfterCancel [] f = Unit {0}
IsSilentAfterCancel (Polls g m ms ∷ p) f = (g ≡ f → is_cancelled p f ≡ false) × IsSilentAfterCancel p f
IsSilentAfterCancel (_ ∷ p) f = IsSilentAfterCancel p f

-- a poll that told fewer messages than were asked for left no row and no resolved message to tell
abbrev pub LeavesNothingDue : List Effect → ℕ → Feed → Type 0
LeavesNothingDue [] f feed = Unit {0}
LeavesNothingDue (Polls g m ms ∷ p) f feed =
    (g ≡ f → length ms < m → (untold_rows (Polls g m ms ∷ p) f feed ≡ []) × (due_message (Polls g m ms ∷ p) f feed ≡ [])) × LeavesNothingDue p f feed
LeavesNothingDue (_ ∷ p) f feed = LeavesNothingDue p f feed

-- after a poll that told fewer messages than were asked for, what was resolved is nearer to closed than the least gap
abbrev pub ReachesClosed : List Effect → ℕ → Feed → Type 0
ReachesClosed [] f feed = Unit {0}
ReachesClosed (Polls g m ms ∷ p) f feed =
    (g ≡ f → length ms < m → closed_of p < resolved_of (Polls g m ms ∷ p) f feed + least_gap feed.kind) × ReachesClosed p f feed
ReachesClosed (_ ∷ p) f feed = ReachesClosed p f feed

-- the feed f is right: its rows begin its list (however far that is taken), its resolved messages divide the list
-- exactly and lie the least gap apart, a short answer left nothing that was due and came as near to closed as the gap lets
-- it, and nothing follows a cancellation
pub record FeedIsRight (p : List Effect) (f : ℕ) (feed : Feed) : Type 0 where
  pub begins : (n : ℕ) → closed_of p ≤ n → (rest : List Row) × (list_of p feed n ≡ rows_in (told_to p f) ++ rest)
  pub divides : DividesList p feed [] (told_to p f)
  pub follows : RowsFollowResolved (told_to p f)
  pub apart : ResolvedApart (least_gap feed.kind) (start_of feed) (told_to p f)
  pub silent : IsSilentAfterCancel p f
  pub exhausts : LeavesNothingDue p f feed
  pub reaches : ReachesClosed p f feed
