-- The answer to each command: its tests in order, and the reply where none of them applies.
use Rattle.std.specs.Prelude.{ℕ, suc, List, [], ◌∷◌, ◌++◌, map, filter, length, Bool, true, false, not, ◌&&◌, ◌||◌, ◌==◌, ◌-◌, nat_lt, nat_le, max, if◌then◌else◌, Option, Some, None, is_some}
use Rattle.timestamps.specs.declared.ts.TheConstants.{MAX}
use Rattle.spans.specs.declared.calls.commands.Cmd.{Cmd}
use Rattle.spans.specs.declared.calls.commands.Cmd.TheVariants.{Begin, Get, Scan, Put, Del, Commit, Abort, Close, CloseHard, Protect, Release, Collect, Open, OpenInitial, OpenEvery, OpenInitialEvery, Poll, Cancel, Stats, ReadAt, ScanAt}
use Rattle.spans.specs.declared.calls.replies.Reply.{Reply}
use Rattle.spans.specs.declared.calls.replies.Reply.TheVariants.{Started, Found, Rows, Written, Committed, Aborted, Closed, Protected, Released, Collected, Opened, Messages, Cancelled, Refused}
use Rattle.spans.specs.declared.calls.replies.Reply.TheVariants as replies
use Rattle.spans.specs.declared.calls.replies.Refusal.{Refusal}
use Rattle.spans.specs.declared.calls.replies.Refusal.TheVariants.{BelowClosed, TsUsed, TsRange, Blocked, NoTxn, NotOwner, Ended, TooLate, NotClosed, BelowHorizon, NoProtection, NoFeed, FeedCancelled, GapRange}
use Rattle.spans.specs.declared.kind.Kind.{Kind}
use Rattle.spans.specs.Effects.{Effect, Collects, kind_of}
use Rattle.spans.specs.Keys.{in_span, pairs_of}
use Rattle.spans.specs.Transactions.{owner_of, closed_of, is_committed, is_aborted, undecided_timestamps, decided_through}
use Rattle.spans.specs.Versions.{write_count, written_keys, visible, committed_value, is_blocked}
use Rattle.spans.specs.Reads.{too_late}
use Rattle.spans.specs.Feeds.{Feed, feed_of, feeds_opened, is_cancelled, next_messages}
use Rattle.spans.specs.Collection.{horizon_of, protections_made, is_protected, collection_horizon, versions_of, dead_of, live_feeds}

-- the refusal of the first test that applies, and else the reply
abbrev pub first_refusal_or : List (Bool × Refusal) → Reply → Reply
first_refusal_or [] reply = reply
first_refusal_or (test ∷ tests) reply = if test.0 then Refused test.1 else first_refusal_or tests reply

-- the refusal of the first test that applies
abbrev pub first_refusal : List (Bool × Refusal) → Option Refusal
first_refusal [] = None
first_refusal (test ∷ tests) = if test.0 then Some test.1 else first_refusal tests

abbrev pub is_owner : Option ℕ → ℕ → Bool
is_owner None seat = false
is_owner (Some s) seat = s == seat

-- the tests of a transaction's commands. Ended comes first: of what is at or below closed nothing need be remembered
abbrev pub transaction_tests : List Effect → ℕ → ℕ → List (Bool × Refusal)
transaction_tests p seat t =
    (nat_le t (closed_of p), Ended)
    ∷ (not (is_some (owner_of p t)), NoTxn)
    ∷ (not (is_owner (owner_of p t) seat), NotOwner)
    ∷ (is_committed p t || is_aborted p t, Ended)
    ∷ []

abbrev pub is_timestamp : ℕ → Bool
is_timestamp t = nat_lt 0 t && nat_le t MAX

-- the tests of a poll, in order: no such feed, cancelled, another's; and else the reply
abbrev pub with_feed : List Effect → ℕ → ℕ → Option Feed → (Feed → Reply) → Reply
with_feed p seat f None reply = Refused NoFeed
with_feed p seat f (Some feed) reply =
    first_refusal_or ((is_cancelled p f, FeedCancelled) ∷ (not (feed.seat == seat), NotOwner) ∷ []) (reply feed)

-- the tests of a read at a closed timestamp
abbrev pub snapshot_tests : List Effect → ℕ → List (Bool × Refusal)
snapshot_tests p t = (nat_lt (closed_of p) t, NotClosed (closed_of p)) ∷ (nat_lt t (horizon_of p), BelowHorizon (horizon_of p)) ∷ []

-- the tests of what looks back to a timestamp: a protection, or a feed's cursor
abbrev pub horizon_tests : List Effect → ℕ → List (Bool × Refusal)
horizon_tests p t = (nat_lt MAX t, TsRange) ∷ (nat_lt t (horizon_of p), BelowHorizon (horizon_of p)) ∷ []

-- a gap is in the range of timestamps
abbrev pub is_gap : Option ℕ → Bool
is_gap None = true
is_gap (Some gap) = is_timestamp gap

-- the tests of an opening, by the feed's kind. An initial feed begins by a read at its cursor, so that has to be closed
abbrev pub opening_tests : Kind → List Effect → ℕ → List (Bool × Refusal)
opening_tests kind p cursor =
    (nat_lt MAX cursor, TsRange)
    ∷ (not (is_gap kind.gap), GapRange)
    ∷ (nat_lt cursor (horizon_of p), BelowHorizon (horizon_of p))
    ∷ (kind.initial && nat_lt (closed_of p) cursor, NotClosed (closed_of p))
    ∷ []

-- the answer to the command that opens a feed of the kind
abbrev pub opening_answer : Kind → List Effect → ℕ → Reply
opening_answer kind p cursor = first_refusal_or (opening_tests kind p cursor) (Opened (suc (feeds_opened p)))

-- the answer to a seat's command after p. The statistics are the versions that aren't dead, the undecided transactions,
-- the live feeds, closed and the horizon
abbrev pub answer_of : List Effect → ℕ → Cmd → Reply
answer_of p seat (Begin t) =
    first_refusal_or ((not (is_timestamp t), TsRange) ∷ (nat_le t (closed_of p), BelowClosed (closed_of p)) ∷ (is_some (owner_of p t), TsUsed) ∷ []) Started
answer_of p seat (Get t x) =
    first_refusal_or (transaction_tests p seat t ++ (is_blocked p x t, Blocked (visible p x t).ts) ∷ []) (Found (visible p x t).after)
answer_of p seat (Scan t span) =
    first_refusal_or (transaction_tests p seat t ++ map (λ x. (is_blocked p x t, Blocked (visible p x t).ts)) (filter (in_span span) (written_keys p)))
    (Rows (pairs_of (λ x. (visible p x t).after) (filter (in_span span) (written_keys p))))
answer_of p seat (Put t x v) = first_refusal_or (transaction_tests p seat t ++ (too_late p x t, TooLate) ∷ []) Written
answer_of p seat (Del t x) = first_refusal_or (transaction_tests p seat t ++ (too_late p x t, TooLate) ∷ []) Written
answer_of p seat (Commit t) = first_refusal_or (transaction_tests p seat t) (Committed (write_count p t))
answer_of p seat (Abort t) = first_refusal_or (transaction_tests p seat t) Aborted
answer_of p seat (Close to) =
    first_refusal_or ((nat_lt MAX to, TsRange) ∷ []) (Closed (max (closed_of p) (decided_through p to)) 0)
answer_of p seat (CloseHard to) =
    first_refusal_or ((nat_lt MAX to, TsRange) ∷ []) (Closed (max (closed_of p) to) (length (filter (λ t. nat_le t to) (undecided_timestamps p))))
answer_of p seat (ReadAt t x) = first_refusal_or (snapshot_tests p t) (Found (committed_value p x t))
answer_of p seat (ScanAt t span) =
    first_refusal_or (snapshot_tests p t) (Rows (pairs_of (λ x. committed_value p x t) (filter (in_span span) (written_keys p))))
answer_of p seat (Protect t) = first_refusal_or (horizon_tests p t) (Protected (suc (protections_made p)))
answer_of p seat (Release id) = first_refusal_or ((not (is_protected p id), NoProtection) ∷ []) Released
answer_of p seat (Collect to) =
    first_refusal_or ((nat_lt MAX to, TsRange) ∷ [])
    (let n = collection_horizon p to in Collected n (length (dead_of (Collects n ∷ p)) - length (dead_of p)))
answer_of p seat (Open span cursor) = opening_answer (kind_of false None) p cursor
answer_of p seat (OpenInitial span cursor) = opening_answer (kind_of true None) p cursor
answer_of p seat (OpenEvery span cursor gap) = opening_answer (kind_of false (Some gap)) p cursor
answer_of p seat (OpenInitialEvery span cursor gap) = opening_answer (kind_of true (Some gap)) p cursor
answer_of p seat (Poll f max) = with_feed p seat f (feed_of p f) (λ feed. Messages (next_messages p f feed max))
answer_of p seat (Cancel f) =
    first_refusal_or ((not (is_some (feed_of p f)), NoFeed) ∷ (is_cancelled p f, FeedCancelled) ∷ []) Cancelled
answer_of p seat Stats =
    replies.Stats (length (versions_of p) - length (dead_of p)) (length (undecided_timestamps p)) (length (live_feeds p)) (closed_of p) (horizon_of p)
