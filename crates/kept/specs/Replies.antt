-- The reply to each command, made of what is kept and of what the layers of an engine answer.
use Rattle.std.specs.List.{list_any}
use Rattle.std.specs.Prelude.{Bool, List, None, Option, Some, [], if◌then◌else◌, is_some, length, map, max, nat_le, nat_lt, not, suc, take, ℕ, ◌&&◌, ◌++◌, ◌==◌, ◌∷◌}
use Rattle.kept.specs.Prelude.{Aborted, BelowClosed, BelowHorizon, Blocked, Cancelled, Closed, Collected, Committed, FeedCancelled, Found, GapRange, Kept, Kind, MAX, Message, Messages, NoFeed, NoProtection, NotClosed, NotOwner, Opened, Place, Protected, Protection, Refusal, Refused, Released, Reply, Row, Rows, Started, TooLate, TsRange, TsUsed, VersionName, Written, first_refusal_or, is_due, is_gap, is_timestamp, pairs_of}
use Rattle.kept.specs.Finding.{is_seen_blocked, seen, reach, refusal}
use Rattle.spans.specs.declared.calls.messages.Message.TheVariants as messages
use Rattle.spans.specs.declared.calls.replies.Reply.TheVariants as replies

-- the refusal where there is one, and else the reply
abbrev pub unless_refused : Option Refusal → Reply → Reply
unless_refused None reply = reply
unless_refused (Some r) reply = Refused r

-- refused where the number is above the greatest timestamp
abbrev pub in_range : ℕ → Reply → Reply
in_range to reply = first_refusal_or ((nat_lt MAX to, TsRange) ∷ []) reply

-- above closed, a transaction that began is in the table
abbrev pub begin_reply : Kept → ℕ → Reply
begin_reply k t = first_refusal_or ((not (is_timestamp t), TsRange) ∷ (nat_le t k.closed, BelowClosed k.closed) ∷ (is_some (k.transaction t), TsUsed) ∷ []) Started

-- the value that is found, unless it is another's undecided one
abbrev pub get_reply : Kept → ℕ → ℕ → List ℕ → Reply
get_reply k seat t x = unless_refused (refusal k seat t) (if is_seen_blocked k x t then Refused (Blocked (seen k x t).ts) else Found (seen k x t).after)

-- keys are those of the span that are kept
abbrev pub scan_reply : Kept → ℕ → ℕ → List (List ℕ) → Reply
scan_reply k seat t keys = unless_refused (refusal k seat t)
    (first_refusal_or (map (λ x. (is_seen_blocked k x t, Blocked (seen k x t).ts)) keys) (Rows (pairs_of (λ x. (seen k x t).after) keys)))

-- late is what the marks answer
abbrev pub write_reply : Kept → ℕ → ℕ → Bool → Reply
write_reply k seat t late = unless_refused (refusal k seat t) (if late then Refused TooLate else Written)

-- with how many keys it wrote
abbrev pub commit_reply : Kept → ℕ → ℕ → ℕ → Reply
commit_reply k seat t keys = unless_refused (refusal k seat t) (Committed keys)

-- an abort says nothing but that it was done
abbrev pub abort_reply : Kept → ℕ → ℕ → Reply
abort_reply k seat t = unless_refused (refusal k seat t) Aborted

-- oldest is the oldest undecided transaction, where there is one
abbrev pub close_reply : Kept → ℕ → Option ℕ → Reply
close_reply k to oldest = in_range to (Closed (max k.closed (reach to oldest)) 0)

-- cut are the transactions that it aborts
abbrev pub close_hard_reply : Kept → ℕ → List ℕ → Reply
close_hard_reply k to cut = in_range to (Closed (max k.closed to) (length cut))

-- between horizon and closed, the value that is found
abbrev pub read_at_reply : Kept → ℕ → List ℕ → Reply
read_at_reply k t x = first_refusal_or ((nat_lt k.closed t, NotClosed k.closed) ∷ (nat_lt t k.horizon, BelowHorizon k.horizon) ∷ []) (Found (seen k x t).after)

-- the rows of the kept keys
abbrev pub scan_at_reply : Kept → ℕ → List (List ℕ) → Reply
scan_at_reply k t keys = first_refusal_or ((nat_lt k.closed t, NotClosed k.closed) ∷ (nat_lt t k.horizon, BelowHorizon k.horizon) ∷ []) (Rows (pairs_of (λ x. (seen k x t).after) keys))

-- protections are numbered from 1 on
abbrev pub protect_reply : Kept → ℕ → Reply
protect_reply k t = first_refusal_or ((nat_lt MAX t, TsRange) ∷ (nat_lt t k.horizon, BelowHorizon k.horizon) ∷ []) (Protected (suc k.protections_made))

-- of a protection that stands
abbrev pub release_reply : Kept → ℕ → Reply
release_reply k id = first_refusal_or ((not (list_any (λ (n : Protection). n.id == id) k.protections), NoProtection) ∷ []) Released

-- dropped are the versions that it drops
abbrev pub collect_reply : ℕ → ℕ → List VersionName → Reply
collect_reply to horizon dropped = in_range to (Collected horizon (length dropped))

-- the tests of an opening, by the feed's kind
abbrev pub kept_opening_tests : Kind → Kept → ℕ → List (Bool × Refusal)
kept_opening_tests kind k cursor =
    (nat_lt MAX cursor, TsRange)
    ∷ (not (is_gap kind.gap), GapRange)
    ∷ (nat_lt cursor k.horizon, BelowHorizon k.horizon)
    ∷ (kind.initial && nat_lt k.closed cursor, NotClosed k.closed)
    ∷ []

-- feeds of all kinds are numbered from 1 on
abbrev pub open_reply : Kind → Kept → ℕ → Reply
open_reply kind k cursor = first_refusal_or (kept_opening_tests kind k cursor) (Opened (suc k.feeds_opened))

-- why there is no such feed: it was opened once, or never
abbrev pub feed_refusal : Kept → ℕ → Refusal
feed_refusal k f = if nat_lt 0 f && nat_le f k.feeds_opened then FeedCancelled else NoFeed

-- the rows that are left, and the resolved message where it is due
abbrev pub messages_left : ℕ → Place → List Row → List Message
messages_left closed place rows = map messages.Row rows ++ (if is_due place.kind place.after closed then messages.Resolved closed ∷ [] else [])

-- for the owner of the place, the next of what is left
abbrev pub poll_place : Kept → ℕ → ℕ → ℕ → List Row → Option Place → Reply
poll_place k seat f max rows None = Refused (feed_refusal k f)
poll_place k seat f max rows (Some place) =
    first_refusal_or ((not (place.seat == seat), NotOwner) ∷ []) (Messages (take max (messages_left k.closed place rows)))

-- rows are those that are left for the feed, or the first of them
abbrev pub poll_reply : Kept → ℕ → ℕ → ℕ → List Row → Reply
poll_reply k seat f max rows = poll_place k seat f max rows (k.feed f)

-- from any seat, of a feed that is kept
abbrev pub cancel_reply : Kept → ℕ → Reply
cancel_reply k f = if is_some (k.feed f) then Cancelled else Refused (feed_refusal k f)

-- the kept versions, the undecided transactions and the live feeds, each once
abbrev pub stats_reply : Kept → List VersionName → List ℕ → List ℕ → Reply
stats_reply k versions undecided feeds = replies.Stats (length versions) (length undecided) (length feeds) k.closed k.horizon
