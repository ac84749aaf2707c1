-- How much of a scan or a poll finds room (this project's own). A row has the bytes of its key and its value, and 17 more,
-- as a message in bytes has.
use Rattle.std.specs.Prelude.{Bool, List, None, Option, Some, false, filter, if◌then◌else◌, is_some, nat_lt, not, true, ◌==◌, ◌&&◌, ◌≡◌, ℕ}
use Rattle.engine.specs.Prelude.{Cmd, Effect, Feed, Place, Poll, Scan, ScanAt, count_or, end_within, feed_of, first_refusal, horizon_of, is_blocked, is_cancelled, next_messages, place_of, snapshot_tests, transaction_tests, visible, written_keys}
use Rattle.spans.specs.Keys.{in_span}
use Rattle.spans.specs.declared.calls.replies.Refusal.{Refusal}
use Rattle.spans.specs.declared.span.Span.{Span}

-- the end of the longest beginning of the span of which a scan at t finds room; none where the whole span does, or where
-- the scan is stopped before. Below the horizon each scan is refused, so nothing ends it
abbrev pub scan_end : List Effect → ℕ → Span → (rows bytes : ℕ) → Option (List ℕ)
scan_end p t span rows bytes =
    if nat_lt t (horizon_of p) then None else end_within (λ x. is_blocked p x t) (λ x. (visible p x t).after) rows bytes (filter (in_span span) (written_keys p))

-- the span up to the key, where there is one
abbrev pub up_to : Option (List ℕ) → Span → Span
up_to None span = span
up_to (Some x) span = record { lo = span.lo; hi = Some x }

-- how many of a feed's next messages find room, and what was asked for where all of them do
abbrev pub count_of : List Effect → ℕ → (max bytes : ℕ) → Option Feed → ℕ
count_of p f max bytes None = 0
count_of p f max bytes (Some feed) = count_or max bytes (next_messages p f feed max)

-- how many messages of the feed, at most max, find room; none of a feed that doesn't live
abbrev pub poll_count : List Effect → ℕ → (max bytes : ℕ) → ℕ
poll_count p f max bytes = if is_cancelled p f then 0 else count_of p f max bytes (feed_of p f)

-- ---- answers that are too long

-- none of the tests refuses
abbrev pub passes : List (Bool × Refusal) → Bool
passes tests = not (is_some (first_refusal tests))

-- the feed lives, and is the seat's
abbrev pub is_own : ℕ → Option Place → Bool
is_own seat None = false
is_own seat (Some place) = place.seat == seat

-- a scan that may not be long has at most so many rows, because its time goes with them and not with their bytes
abbrev pub most_rows : ℕ
most_rows = 32768

-- the answer to a seat's command would have more than so many bytes of rows or messages, or too many rows. What is refused
-- by its first tests has none; a scan that is blocked has those of the rows before
abbrev pub is_long : List Effect → (seat most : ℕ) → Cmd → Bool
is_long p seat most (Scan t span) = passes (transaction_tests p seat t) && is_some (scan_end p t span most_rows most)
is_long p seat most (ScanAt t span) = passes (snapshot_tests p t) && is_some (scan_end p t span most_rows most)
is_long p seat most (Poll f max) = is_own seat (place_of p f) && nat_lt (poll_count p f max most) max
is_long p seat most _ = false

-- the command polls a feed that lives, and is the seat's
abbrev pub IsOwnPoll : List Effect → ℕ → Cmd → Type 0
IsOwnPoll p seat cmd = (f : ℕ) × (max : ℕ) × (cmd ≡ Poll f max) × (is_own seat (place_of p f) ≡ true)
