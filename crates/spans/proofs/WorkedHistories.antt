-- Worked histories, each computed from the definitions: calls of seats in turn, and the replies to them.
use Rattle.std.specs.Prelude.{◌≡◌, ℕ, List, [], ◌∷◌, Option, Some, None, refl}
use Rattle.spans.specs.declared.calls.commands.Cmd.{Cmd}
use Rattle.spans.specs.declared.calls.commands.Cmd.TheVariants.{Begin, Get, Scan, Put, Del, Commit, Abort, Close, CloseHard, Protect, Release, Collect, Open, OpenInitial, OpenEvery, OpenInitialEvery, Poll, Cancel, Stats, ReadAt, ScanAt}
use Rattle.spans.specs.declared.calls.replies.Reply.{Reply}
use Rattle.spans.specs.declared.calls.replies.Reply.TheVariants.{Started, Found, Rows, Written, Committed, Aborted, Closed, Protected, Released, Collected, Opened, Messages, Cancelled, Refused}
use Rattle.spans.specs.declared.calls.replies.Reply.TheVariants as replies
use Rattle.spans.specs.declared.calls.replies.Refusal.TheVariants.{BelowClosed, TsUsed, TsRange, Blocked, NoTxn, NotOwner, Ended, TooLate, NotClosed, BelowHorizon, NoProtection, NoFeed, FeedCancelled, GapRange}
use Rattle.spans.specs.declared.calls.messages.Message.{Message}
use Rattle.spans.specs.declared.calls.messages.Message.TheVariants as messages
use Rattle.spans.specs.declared.span.Span.{Span}
use Rattle.spans.specs.Effects.{After, Effect, effect}
use Rattle.spans.specs.Answer.{answer_of}
use Rattle.spans.specs.Consumer.{ApplyFault, NotAfter, OutsideSpan, ResolvedBack, apply_fault}

-- the replies to calls of seats, after the effects p
abbrev pub replies_to : List Effect → List (ℕ × Cmd) → List Reply
replies_to p [] = []
replies_to p (call ∷ calls) = let r = answer_of p call.0 call.1 in r ∷ replies_to (effect call.0 call.1 r ∷ p) calls

abbrev pub a : List ℕ
a = 97 ∷ []

abbrev pub b : List ℕ
b = 98 ∷ []

abbrev pub c : List ℕ
c = 99 ∷ []

abbrev pub one : List ℕ
one = 49 ∷ []

abbrev pub two : List ℕ
two = 50 ∷ []

abbrev three : List ℕ
three = 51 ∷ []

abbrev four : List ℕ
four = 52 ∷ []

abbrev pub whole : Span
whole = record { lo = None; hi = None }

-- a row as a feed tells it
abbrev told : ℕ → List ℕ → After → Message
told t x v = messages.Row (record { ts = t; key = x; after = v })

-- two sessions: what one commits, the other reads
pub two_sessions : replies_to [] ((0, Begin 10) ∷ (0, Put 10 a one) ∷ (0, Commit 10) ∷ (1, Begin 20) ∷ (1, Get 20 a) ∷ [])
    ≡ Started ∷ Written ∷ Committed 1 ∷ Started ∷ Found (Some one) ∷ []
two_sessions = refl

-- a write between two versions is no write beneath a read: the later reader read the newer one
pub between_versions : replies_to [] ((0, Begin 5) ∷ (0, Put 5 a one) ∷ (0, Commit 5) ∷ (0, Begin 12) ∷ (0, Put 12 a two) ∷ (0, Commit 12) ∷ (1, Begin 15) ∷ (1, Get 15 a) ∷ (0, Begin 11) ∷ (0, Put 11 a three) ∷ [])
    ≡ Started ∷ Written ∷ Committed 1 ∷ Started ∷ Written ∷ Committed 1 ∷ Started ∷ Found (Some two) ∷ Started ∷ Written ∷ []
between_versions = refl

-- read, then written, by one transaction: the read still counts
pub read_then_written : replies_to [] ((0, Begin 20) ∷ (0, Get 20 a) ∷ (0, Put 20 a one) ∷ (1, Begin 10) ∷ (1, Put 10 a two) ∷ [])
    ≡ Started ∷ Found None ∷ Written ∷ Started ∷ Refused TooLate ∷ []
read_then_written = refl

-- a read of one's own version stands in no other's way
pub own_read : replies_to [] ((0, Begin 20) ∷ (0, Put 20 a one) ∷ (0, Get 20 a) ∷ (1, Begin 10) ∷ (1, Put 10 a two) ∷ [])
    ≡ Started ∷ Written ∷ Found (Some one) ∷ Started ∷ Written ∷ []
own_read = refl

-- an absent key was scanned
pub absent_key : replies_to [] ((0, Begin 20) ∷ (0, Scan 20 whole) ∷ (1, Begin 10) ∷ (1, Put 10 c one) ∷ [])
    ≡ Started ∷ Rows [] ∷ Started ∷ Refused TooLate ∷ []
absent_key = refl

-- a write beneath a later read, whatever became of the reader
pub beneath : replies_to [] ((0, Begin 10) ∷ (1, Begin 20) ∷ (1, Get 20 a) ∷ (1, Abort 20) ∷ (0, Put 10 a one) ∷ (0, Commit 10) ∷ [])
    ≡ Started ∷ Started ∷ Found None ∷ Aborted ∷ Refused TooLate ∷ Refused Ended ∷ []
beneath = refl

-- closing
pub closing : replies_to [] ((0, Begin 10) ∷ (0, Close 100) ∷ (0, Commit 10) ∷ (0, Close 100) ∷ (0, Begin 50) ∷ (0, Close 20) ∷ (0, Begin 100) ∷ (0, Begin 101) ∷ (0, Commit 50) ∷ [])
    ≡ Started ∷ Closed 9 0 ∷ Committed 0 ∷ Closed 100 0 ∷ Refused (BelowClosed 100) ∷ Closed 100 0 ∷ Refused (BelowClosed 100) ∷ Started ∷ Refused Ended ∷ []
closing = refl

-- commit order isn't stream order
pub order : replies_to [] ((0, Open whole 0) ∷ (1, Begin 20) ∷ (1, Put 20 a one) ∷ (1, Commit 20) ∷ (2, Begin 10) ∷ (2, Put 10 b one) ∷ (2, Commit 10) ∷ (0, Poll 1 10) ∷ (0, Close 30) ∷ (0, Poll 1 10) ∷ [])
    ≡ Opened 1 ∷ Started ∷ Written ∷ Committed 1 ∷ Started ∷ Written ∷ Committed 1 ∷ Messages [] ∷ Closed 30 0
    ∷ Messages (told 10 b (Some one) ∷ told 20 a (Some one) ∷ messages.Resolved 30 ∷ []) ∷ []
order = refl

-- the floor of a feed that lags
pub lagging : replies_to [] ((0, Begin 5) ∷ (0, Put 5 a one) ∷ (0, Commit 5) ∷ (0, Begin 10) ∷ (0, Put 10 a two) ∷ (0, Commit 10) ∷ (0, Begin 20) ∷ (0, Put 20 a three) ∷ (0, Commit 20)
    ∷ (0, Open whole 5) ∷ (0, Close 30) ∷ (0, Poll 1 1) ∷ (0, Collect 30) ∷ (0, Poll 1 10) ∷ (0, Collect 30) ∷ (0, Stats) ∷ (0, ReadAt 29 a) ∷ (0, ReadAt 30 a) ∷ (0, ReadAt 31 a) ∷ [])
    ≡ Started ∷ Written ∷ Committed 1 ∷ Started ∷ Written ∷ Committed 1 ∷ Started ∷ Written ∷ Committed 1
    ∷ Opened 1 ∷ Closed 30 0 ∷ Messages (told 10 a (Some two) ∷ []) ∷ Collected 9 0
    ∷ Messages (told 20 a (Some three) ∷ messages.Resolved 30 ∷ []) ∷ Collected 30 2 ∷ replies.Stats 1 0 1 30 30
    ∷ Refused (BelowHorizon 30) ∷ Found (Some three) ∷ Refused (NotClosed 30) ∷ []
lagging = refl

-- hard closing, snapshots and protection
pub hard : replies_to [] ((0, Begin 10) ∷ (0, Put 10 a one) ∷ (1, Begin 50) ∷ (1, Put 50 b two) ∷ (2, CloseHard 20) ∷ (0, Commit 10) ∷ (1, Commit 50) ∷ (2, Close 50) ∷ (2, ScanAt 50 whole)
    ∷ (2, Protect 20) ∷ (2, Collect 50) ∷ (0, Release 1) ∷ (0, Release 1) ∷ (2, Collect 50) ∷ (2, Protect 20) ∷ [])
    ≡ Started ∷ Written ∷ Started ∷ Written ∷ Closed 20 1 ∷ Refused Ended ∷ Committed 1 ∷ Closed 50 0 ∷ Rows ((b, two) ∷ [])
    ∷ Protected 1 ∷ Collected 20 0 ∷ Released ∷ Refused NoProtection ∷ Collected 50 0 ∷ Refused (BelowHorizon 50) ∷ []
hard = refl

-- a dropped delete keeps its mark: the reader that found none still refuses the write beneath it
pub dropped : replies_to [] ((0, Begin 3) ∷ (0, Put 3 a one) ∷ (0, Commit 3) ∷ (0, Begin 5) ∷ (0, Del 5 a) ∷ (0, Commit 5) ∷ (1, Begin 20) ∷ (2, Begin 15) ∷ (0, Close 10) ∷ (1, Get 20 a) ∷ (0, Collect 10) ∷ (2, Put 15 a two) ∷ (0, Stats) ∷ [])
    ≡ Started ∷ Written ∷ Committed 1 ∷ Started ∷ Written ∷ Committed 1 ∷ Started ∷ Started ∷ Closed 10 0 ∷ Found None ∷ Collected 10 2 ∷ Refused TooLate ∷ replies.Stats 0 1 0 10 10 ∷ []
dropped = refl

-- a blocked read leaves no mark, and the read that follows the decision does
pub blocks : replies_to [] ((0, Begin 10) ∷ (0, Put 10 a one) ∷ (1, Begin 20) ∷ (2, Begin 15) ∷ (1, Get 20 a) ∷ (1, Scan 20 whole) ∷ (2, Put 15 b two) ∷ (2, Commit 15) ∷ (0, Commit 10) ∷ (1, Scan 20 whole) ∷ (2, Begin 16) ∷ (2, Put 16 c two) ∷ [])
    ≡ Started ∷ Written ∷ Started ∷ Started ∷ Refused (Blocked 10) ∷ Refused (Blocked 10) ∷ Written ∷ Committed 1 ∷ Committed 1 ∷ Rows ((a, one) ∷ (b, two) ∷ []) ∷ Started ∷ Refused TooLate ∷ []
blocks = refl

-- a transaction split over polls, with a closing between
pub split_over_polls : replies_to [] ((0, Open whole 0) ∷ (1, Begin 10) ∷ (1, Put 10 a one) ∷ (1, Put 10 b two) ∷ (1, Commit 10) ∷ (0, Close 10) ∷ (0, Poll 1 1) ∷ (0, Close 15) ∷ (0, Poll 1 1) ∷ (0, Poll 1 1) ∷ (0, Poll 1 10) ∷ [])
    ≡ Opened 1 ∷ Started ∷ Written ∷ Written ∷ Committed 2 ∷ Closed 10 0 ∷ Messages (told 10 a (Some one) ∷ []) ∷ Closed 15 0
    ∷ Messages (told 10 b (Some two) ∷ []) ∷ Messages (messages.Resolved 15 ∷ []) ∷ Messages [] ∷ []
split_over_polls = refl

-- cancellation
pub cancellation : replies_to [] ((0, Open whole 0) ∷ (1, Poll 1 1) ∷ (1, Cancel 1) ∷ (0, Poll 1 1) ∷ (1, Cancel 1) ∷ (0, Poll 2 1) ∷ [])
    ≡ Opened 1 ∷ Refused NotOwner ∷ Cancelled ∷ Refused FeedCancelled ∷ Refused FeedCancelled ∷ Refused NoFeed ∷ []
cancellation = refl

-- what holds the horizon back
pub held_back : replies_to [] ((0, Close 40) ∷ (0, Protect 10) ∷ (1, Protect 30) ∷ (0, Collect 40) ∷ (1, Release 1) ∷ (0, Collect 40) ∷ (0, Protect 29) ∷ (0, Open whole 29) ∷ (0, Open whole 30) ∷ (0, Release 2)
    ∷ (0, Collect 40) ∷ (1, Cancel 1) ∷ (0, Collect 40) ∷ (0, Stats) ∷ [])
    ≡ Closed 40 0 ∷ Protected 1 ∷ Protected 2 ∷ Collected 10 0 ∷ Released ∷ Collected 30 0 ∷ Refused (BelowHorizon 30) ∷ Refused (BelowHorizon 30) ∷ Opened 1 ∷ Released
    ∷ Collected 30 0 ∷ Cancelled ∷ Collected 40 0 ∷ replies.Stats 0 0 0 40 40 ∷ []
held_back = refl

-- an abort drops what was written, and ends the transaction
pub aborted : replies_to [] ((0, Begin 10) ∷ (0, Put 10 a one) ∷ (0, Stats) ∷ (0, Abort 10) ∷ (0, Commit 10) ∷ (0, Begin 20) ∷ (0, Get 20 a) ∷ (0, Stats) ∷ [])
    ≡ Started ∷ Written ∷ replies.Stats 1 1 0 0 0 ∷ Aborted ∷ Refused Ended ∷ Started ∷ Found None ∷ replies.Stats 0 1 0 0 0 ∷ []
aborted = refl

-- a delete that comes too late aborts its transaction as well
pub delete_too_late : replies_to [] ((0, Begin 10) ∷ (1, Begin 20) ∷ (1, Get 20 a) ∷ (0, Del 10 a) ∷ (0, Commit 10) ∷ [])
    ≡ Started ∷ Started ∷ Found None ∷ Refused TooLate ∷ Refused Ended ∷ []
delete_too_late = refl

-- the tests of a transaction, one by one and in their order
pub tests_in_order : replies_to [] ((0, Begin 0) ∷ (0, Begin 10) ∷ (1, Begin 10) ∷ (1, Get 10 a) ∷ (1, Put 10 a one) ∷ (0, Get 7 a) ∷ (0, Get 0 a) ∷ (0, Commit 10) ∷ (1, Commit 10) ∷ (0, Commit 10) ∷ (0, Cancel 1) ∷ [])
    ≡ Refused TsRange ∷ Started ∷ Refused TsUsed ∷ Refused NotOwner ∷ Refused NotOwner ∷ Refused NoTxn ∷ Refused Ended ∷ Committed 0 ∷ Refused NotOwner ∷ Refused Ended ∷ Refused NoFeed ∷ []
tests_in_order = refl

-- a closing stops below the oldest of several, and a hard closing reaches its own timestamp
pub oldest_of_several : replies_to [] ((0, Begin 20) ∷ (0, Begin 10) ∷ (0, Begin 30) ∷ (0, Put 20 a one) ∷ (0, Close 40) ∷ (0, CloseHard 20) ∷ (0, Begin 25) ∷ (0, Get 25 a) ∷ [])
    ≡ Started ∷ Started ∷ Started ∷ Written ∷ Closed 9 0 ∷ Closed 20 2 ∷ Started ∷ Found None ∷ []
oldest_of_several = refl

-- a blocked scan names the writer at the least key, and looks at no key outside its span
pub blocked_scans : replies_to [] ((0, Begin 10) ∷ (0, Begin 11) ∷ (0, Put 10 b one) ∷ (0, Put 11 a one) ∷ (1, Begin 20) ∷ (1, Scan 20 whole) ∷ (0, Commit 10) ∷ (1, Scan 20 (record { lo = Some b; hi = Some c })) ∷ [])
    ≡ Started ∷ Started ∷ Written ∷ Written ∷ Started ∷ Refused (Blocked 11) ∷ Committed 1 ∷ Rows ((b, one) ∷ []) ∷ []
blocked_scans = refl

-- several writes of a key are one version, an empty value is a value, and a delete is told
pub last_write : replies_to [] ((0, Open (record { lo = Some b; hi = Some c }) 0) ∷ (1, Begin 10) ∷ (1, Put 10 a one) ∷ (1, Put 10 b two) ∷ (1, Put 10 b []) ∷ (1, Commit 10) ∷ (1, Begin 20) ∷ (1, Del 20 b) ∷ (1, Commit 20)
    ∷ (0, Close 20) ∷ (0, Poll 1 10) ∷ [])
    ≡ Opened 1 ∷ Started ∷ Written ∷ Written ∷ Written ∷ Committed 2 ∷ Started ∷ Written ∷ Committed 1
    ∷ Closed 20 0 ∷ Messages (told 10 b (Some []) ∷ told 20 b None ∷ messages.Resolved 20 ∷ []) ∷ []
last_write = refl

-- the horizon stops at `to`, at closed and where it was, and `removed` is by how much the dead versions grew
pub collections : replies_to [] ((0, Begin 1) ∷ (0, Put 1 a one) ∷ (0, Commit 1) ∷ (0, Begin 2) ∷ (0, Put 2 a two) ∷ (0, Commit 2) ∷ (0, Begin 3) ∷ (0, Del 3 a) ∷ (0, Commit 3)
    ∷ (0, Close 30) ∷ (0, Collect 2) ∷ (0, Collect 1) ∷ (0, Collect 3) ∷ (0, Stats) ∷ (0, Collect 100) ∷ (0, Stats) ∷ [])
    ≡ Started ∷ Written ∷ Committed 1 ∷ Started ∷ Written ∷ Committed 1 ∷ Started ∷ Written ∷ Committed 1
    ∷ Closed 30 0 ∷ Collected 2 1 ∷ Collected 2 0 ∷ Collected 3 2 ∷ replies.Stats 0 0 0 30 3 ∷ Collected 30 0 ∷ replies.Stats 0 0 0 30 30 ∷ []
collections = refl

-- a feed holds the horizon at what it resolved, a cancelled one doesn't; a protection's number isn't used again; another
-- seat's poll of a cancelled feed says that it was cancelled
pub holding_and_letting_go : replies_to [] ((0, Open whole 0) ∷ (0, Close 10) ∷ (0, Poll 1 9) ∷ (0, Close 30) ∷ (0, Collect 30) ∷ (1, Cancel 1) ∷ (0, Collect 20) ∷ (1, Poll 1 9) ∷ (0, Protect 20) ∷ (0, Release 1) ∷ (0, Protect 20) ∷ [])
    ≡ Opened 1 ∷ Closed 10 0 ∷ Messages (messages.Resolved 10 ∷ []) ∷ Closed 30 0 ∷ Collected 10 0 ∷ Cancelled ∷ Collected 20 0 ∷ Refused FeedCancelled ∷ Protected 1 ∷ Released ∷ Protected 2 ∷ []
holding_and_letting_go = refl

-- an initial feed: the map at its cursor, keys rising, and then what was committed above it. It holds the horizon at its cursor
-- while only the map was told, and begins at a cursor that is closed
pub initial_scan : replies_to [] ((0, Begin 5) ∷ (0, Put 5 a one) ∷ (0, Put 5 b two) ∷ (0, Put 5 c three) ∷ (0, Commit 5) ∷ (0, Begin 8) ∷ (0, Del 8 b) ∷ (0, Put 8 c four) ∷ (0, Commit 8)
    ∷ (0, Close 9) ∷ (1, OpenInitial whole 10) ∷ (1, OpenInitial whole 7) ∷ (1, Poll 1 2) ∷ (0, Collect 9) ∷ (1, Poll 1 10) ∷ (0, Collect 9) ∷ (1, OpenInitial whole 9) ∷ (1, Poll 2 10) ∷ (1, OpenInitial whole 8) ∷ [])
    ≡ Started ∷ Written ∷ Written ∷ Written ∷ Committed 3 ∷ Started ∷ Written ∷ Written ∷ Committed 2
    ∷ Closed 9 0 ∷ Refused (NotClosed 9) ∷ Opened 1 ∷ Messages (told 7 a (Some one) ∷ told 7 b (Some two) ∷ []) ∷ Collected 7 0
    ∷ Messages (told 7 c (Some three) ∷ told 8 b None ∷ told 8 c (Some four) ∷ messages.Resolved 9 ∷ []) ∷ Collected 9 3
    ∷ Opened 2 ∷ Messages (told 9 a (Some one) ∷ told 9 c (Some four) ∷ messages.Resolved 9 ∷ []) ∷ Refused (BelowHorizon 9) ∷ []
initial_scan = refl

-- a feed with a least gap: closed is told once it is that far above what was told of it last, whatever rows were told between
pub least_gap : replies_to [] ((0, OpenEvery whole 0 10) ∷ (0, Close 9) ∷ (0, Poll 1 5) ∷ (0, Close 10) ∷ (0, Poll 1 5) ∷ (1, Begin 15) ∷ (1, Put 15 a one) ∷ (1, Commit 15) ∷ (0, Close 19) ∷ (0, Poll 1 5)
    ∷ (0, Collect 19) ∷ (0, Close 20) ∷ (0, Poll 1 5) ∷ (0, OpenEvery whole 20 0) ∷ [])
    ≡ Opened 1 ∷ Closed 9 0 ∷ Messages [] ∷ Closed 10 0 ∷ Messages (messages.Resolved 10 ∷ []) ∷ Started ∷ Written ∷ Committed 1 ∷ Closed 19 0 ∷ Messages (told 15 a (Some one) ∷ [])
    ∷ Collected 14 0 ∷ Closed 20 0 ∷ Messages (messages.Resolved 20 ∷ []) ∷ Refused GapRange ∷ []
least_gap = refl

-- an initial feed at cursor 0 has nothing to tell first, one whose cursor is closed resolves it, and one of a span tells no
-- key outside it; the tests of the openings, in their order
pub initial_edges : replies_to [] ((0, OpenInitial whole 0) ∷ (0, Poll 1 5) ∷ (1, Begin 2) ∷ (1, Put 2 a one) ∷ (1, Put 2 b two) ∷ (1, Commit 2) ∷ (0, Close 3) ∷ (0, OpenInitial (record { lo = Some b; hi = None }) 3) ∷ (0, Poll 2 1) ∷ (0, Poll 2 5) ∷ (0, Poll 2 5)
    ∷ (0, Poll 1 5) ∷ (0, Collect 3) ∷ (0, OpenEvery whole 1 0) ∷ (0, OpenEvery whole 1 5) ∷ (0, OpenInitial whole 2) ∷ (0, OpenInitial whole 4) ∷ [])
    ≡ Opened 1 ∷ Messages [] ∷ Started ∷ Written ∷ Written ∷ Committed 2 ∷ Closed 3 0 ∷ Opened 2 ∷ Messages (told 3 b (Some two) ∷ []) ∷ Messages (messages.Resolved 3 ∷ []) ∷ Messages []
    ∷ Messages (told 2 a (Some one) ∷ told 2 b (Some two) ∷ messages.Resolved 3 ∷ []) ∷ Collected 3 0 ∷ Refused GapRange ∷ Refused (BelowHorizon 3) ∷ Refused (BelowHorizon 3) ∷ Refused (NotClosed 3) ∷ []
initial_edges = refl

-- the tests of the openings in their order, with numbers above the greatest timestamp; kinds share their numbers
pub opening_ranges : replies_to [] ((0, OpenInitial whole 9223372036854775808) ∷ (0, OpenEvery whole 9223372036854775808 0) ∷ (0, OpenEvery whole 0 9223372036854775808)
    ∷ (0, OpenEvery whole 9223372036854775807 9223372036854775807) ∷ (0, OpenInitial whole 0) ∷ (0, Open whole 9) ∷ (1, Poll 1 1) ∷ (0, Stats) ∷ [])
    ≡ Refused TsRange ∷ Refused TsRange ∷ Refused GapRange ∷ Opened 1 ∷ Opened 2 ∷ Opened 3 ∷ Refused NotOwner ∷ replies.Stats 0 0 3 0 0 ∷ []
opening_ranges = refl

-- a gap is measured from the cursor and then from what was resolved, and not in multiples of itself
pub gap_from_a_cursor : replies_to [] ((0, OpenEvery whole 3 10) ∷ (0, Close 12) ∷ (0, Poll 1 5) ∷ (0, Close 15) ∷ (0, Poll 1 0) ∷ (0, Poll 1 1) ∷ (0, Close 24) ∷ (0, Poll 1 5) ∷ (0, Close 25) ∷ (0, Poll 1 5) ∷ (0, Poll 1 5)
    ∷ (0, OpenEvery whole 25 1) ∷ (0, Poll 2 5) ∷ (0, Close 26) ∷ (0, Poll 2 5) ∷ [])
    ≡ Opened 1 ∷ Closed 12 0 ∷ Messages [] ∷ Closed 15 0 ∷ Messages [] ∷ Messages (messages.Resolved 15 ∷ []) ∷ Closed 24 0 ∷ Messages [] ∷ Closed 25 0 ∷ Messages (messages.Resolved 25 ∷ []) ∷ Messages []
    ∷ Opened 2 ∷ Messages [] ∷ Closed 26 0 ∷ Messages (messages.Resolved 26 ∷ []) ∷ []
gap_from_a_cursor = refl

-- an initial feed at the timestamp of a transaction, collected between its polls: it holds its cursor before its first message
-- too, and lets go as other feeds do once it tells rows above it. One of an empty span resolves its cursor at once
pub scans_and_collections : replies_to [] ((0, Begin 2) ∷ (0, Put 2 a one) ∷ (0, Put 2 b one) ∷ (0, Put 2 c []) ∷ (0, Commit 2) ∷ (0, Begin 5) ∷ (0, Put 5 a two) ∷ (0, Del 5 b) ∷ (0, Commit 5) ∷ (0, Begin 8) ∷ (0, Put 8 a three) ∷ (0, Commit 8)
    ∷ (0, CloseHard 9) ∷ (1, OpenInitial whole 5) ∷ (0, Collect 9) ∷ (1, Poll 1 1) ∷ (0, Collect 9) ∷ (1, Poll 1 2) ∷ (0, Collect 9) ∷ (1, Poll 1 1)
    ∷ (1, OpenInitial (record { lo = Some b; hi = Some c }) 9) ∷ (1, Poll 2 5) ∷ (1, OpenInitial (record { lo = None; hi = Some c }) 9) ∷ (1, Poll 3 1) ∷ (0, Cancel 3) ∷ (1, Poll 3 1) ∷ (0, Collect 9) ∷ [])
    ≡ Started ∷ Written ∷ Written ∷ Written ∷ Committed 3 ∷ Started ∷ Written ∷ Written ∷ Committed 2 ∷ Started ∷ Written ∷ Committed 1
    ∷ Closed 9 0 ∷ Opened 1 ∷ Collected 5 3 ∷ Messages (told 5 a (Some two) ∷ []) ∷ Collected 5 0 ∷ Messages (told 5 c (Some []) ∷ told 8 a (Some three) ∷ []) ∷ Collected 7 0 ∷ Messages (messages.Resolved 9 ∷ [])
    ∷ Opened 2 ∷ Messages (messages.Resolved 9 ∷ []) ∷ Opened 3 ∷ Messages (told 9 a (Some three) ∷ []) ∷ Cancelled ∷ Refused FeedCancelled ∷ Collected 9 1 ∷ []
scans_and_collections = refl

-- an initial feed resolves its cursor, once; another feed resolves nothing at its cursor
pub at_the_edge : replies_to [] ((0, Close 9) ∷ (0, OpenInitial whole 9) ∷ (0, Poll 1 5) ∷ (0, Poll 1 5) ∷ (0, Open whole 9) ∷ (0, Poll 2 5) ∷ [])
    ≡ Closed 9 0 ∷ Opened 1 ∷ Messages (messages.Resolved 9 ∷ []) ∷ Messages [] ∷ Opened 2 ∷ Messages [] ∷ []
at_the_edge = refl

-- an initial feed with a least gap: the map at its cursor at once, and what it resolves lies the gap apart from its start on
pub scan_and_gap : replies_to [] ((0, Begin 5) ∷ (0, Put 5 a one) ∷ (0, Commit 5) ∷ (0, Close 7) ∷ (0, OpenInitialEvery whole 7 3) ∷ (0, Poll 1 9) ∷ (0, Close 8) ∷ (0, Poll 1 9) ∷ (1, Begin 9) ∷ (1, Put 9 b two) ∷ (1, Commit 9)
    ∷ (0, Close 9) ∷ (0, Poll 1 1) ∷ (0, Poll 1 9) ∷ (0, Close 11) ∷ (0, Poll 1 9) ∷ (0, Close 12) ∷ (0, Poll 1 9) ∷ [])
    ≡ Started ∷ Written ∷ Committed 1 ∷ Closed 7 0 ∷ Opened 1 ∷ Messages (told 7 a (Some one) ∷ []) ∷ Closed 8 0 ∷ Messages [] ∷ Started ∷ Written ∷ Committed 1
    ∷ Closed 9 0 ∷ Messages (told 9 b (Some two) ∷ []) ∷ Messages (messages.Resolved 9 ∷ []) ∷ Closed 11 0 ∷ Messages [] ∷ Closed 12 0 ∷ Messages (messages.Resolved 12 ∷ []) ∷ []
scan_and_gap = refl

-- its tests are those of both, in order: the range of the cursor, the range of the gap, the horizon, closed
pub scan_and_gap_tests : replies_to [] ((0, Close 9) ∷ (0, Collect 4) ∷ (0, OpenInitialEvery whole 9223372036854775808 0) ∷ (0, OpenInitialEvery whole 10 0) ∷ (0, OpenInitialEvery whole 3 9223372036854775808)
    ∷ (0, OpenInitialEvery whole 3 1) ∷ (0, OpenInitialEvery whole 10 1) ∷ (0, OpenInitialEvery whole 9 9223372036854775807) ∷ [])
    ≡ Closed 9 0 ∷ Collected 4 0 ∷ Refused TsRange ∷ Refused GapRange ∷ Refused GapRange ∷ Refused (BelowHorizon 4) ∷ Refused (NotClosed 9) ∷ Opened 1 ∷ []
scan_and_gap_tests = refl

-- the tests of a consumer, by the start of its feed: an initial feed of cursor 7 starts at 6, and another at 7
abbrev from : ℕ → Message → Option ApplyFault
from start m = apply_fault whole start [] m

pub starts : (from 6 (told 6 a None) ≡ Some NotAfter) × (from 6 (told 7 a None) ≡ None) × (from 7 (told 7 a None) ≡ Some NotAfter) × (from 7 (told 8 a None) ≡ None)
    × (from 6 (messages.Resolved 6) ≡ Some ResolvedBack) × (from 6 (messages.Resolved 7) ≡ None) × (from 7 (messages.Resolved 7) ≡ Some ResolvedBack) × (from 7 (messages.Resolved 8) ≡ None)
starts = (refl, refl, refl, refl, refl, refl, refl, refl)

-- messages taken one by one: rows rise by timestamp and then by key, and no message goes back behind a resolved one
abbrev behind : List Message → Message → Option ApplyFault
behind taken m = apply_fault whole 0 taken m

pub taken_in_order : (behind (told 10 b (Some one) ∷ []) (told 10 a (Some one)) ≡ Some NotAfter) × (behind (told 10 b (Some one) ∷ []) (told 20 a (Some one)) ≡ None)
    × (behind (told 10 b (Some one) ∷ told 20 a (Some one) ∷ []) (messages.Resolved 19) ≡ Some ResolvedBack)
    × (behind (told 10 b (Some one) ∷ told 20 a (Some one) ∷ []) (messages.Resolved 20) ≡ None)
    × (behind (told 20 a (Some one) ∷ messages.Resolved 20 ∷ []) (messages.Resolved 20) ≡ Some ResolvedBack)
    × (behind (told 20 a (Some one) ∷ messages.Resolved 20 ∷ []) (told 20 c (Some one)) ≡ Some NotAfter)
    × (behind (told 20 a (Some one) ∷ messages.Resolved 20 ∷ []) (told 25 b None) ≡ None)
    × (apply_fault (record { lo = Some b; hi = Some c }) 0 [] (told 5 (100 ∷ []) (Some one)) ≡ Some OutsideSpan)
taken_in_order = (refl, refl, refl, refl, refl, refl, refl, refl)
