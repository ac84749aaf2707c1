-- Worked examples of how far a consumer is complete, and of what the guide promises.
use Rattle.std.specs.Prelude.{◌≡◌, ℕ, List, [], ◌∷◌, Option, Some, None, refl, length}
use Rattle.spans.specs.declared.calls.messages.Message.{Message}
use Rattle.spans.specs.Completeness.{complete_after, ready_after}
use Rattle.spans.proofs.WorkedHistories.{whole, replies_to, a, b, one, two}
use Rattle.spans.specs.declared.calls.commands.Cmd.TheVariants.{Begin, Get, Scan, Put, Del, Commit, Abort, Close, CloseHard, Protect, Release, Collect, Open, Cancel, Stats}
use Rattle.spans.specs.declared.calls.replies.Reply.TheVariants.{Started, Found, Rows, Written, Aborted, Closed, Protected, Released, Collected, Opened, Cancelled}
use Rattle.spans.specs.Effects.{Effect}
use Rattle.spans.specs.Versions.{newest, version_at, committed_version_of}
use Rattle.spans.specs.Collection.{horizon_of, versions_of, dead_of}
use Rattle.spans.specs.Promises.{Stands, left_version_of, left_versions}
use Rattle.spans.proofs.WorkedReports.{after}
use Rattle.spans.specs.declared.calls.messages.Message.TheVariants as messages
use Rattle.spans.specs.declared.calls.replies.Reply.TheVariants as replies

abbrev told_row : ℕ → ℕ → Message
told_row t x = messages.Row (record { ts = t; key = x ∷ []; after = None })

-- a feed of cursor 5: at its cursor at first, just below the row that came last, and at what was resolved last
abbrev through : List Message → Option ℕ
through ms = complete_after 5 5 ms

pub from_a_cursor : (through [] ≡ Some 5) × (through (told_row 10 97 ∷ []) ≡ Some 9) × (through (told_row 10 97 ∷ told_row 10 98 ∷ []) ≡ Some 9)
    × (through (told_row 10 97 ∷ told_row 20 97 ∷ []) ≡ Some 19) × (through (told_row 10 97 ∷ messages.Resolved 12 ∷ []) ≡ Some 12) × (through (told_row 6 97 ∷ []) ≡ Some 5)
from_a_cursor = (refl, refl, refl, refl, refl, refl)

-- an initial feed of cursor 7 starts at 6: none before its snapshot is whole, which a row above the cursor shows. At cursor 0
-- there is nothing to tell first
pub through_a_snapshot : (complete_after 6 7 [] ≡ None) × (complete_after 6 7 (told_row 7 97 ∷ told_row 7 98 ∷ []) ≡ None) × (complete_after 6 7 (told_row 7 97 ∷ told_row 8 97 ∷ []) ≡ Some 7)
    × (complete_after 6 7 (messages.Resolved 7 ∷ []) ≡ Some 7) × (complete_after 0 0 [] ≡ Some 0)
through_a_snapshot = (refl, refl, refl, refl, refl)

-- the rows are the map before the first row of a later timestamp: not before its other rows, nor before a row that is refused
abbrev ready : List Message → Message → Option ℕ
ready taken m = ready_after whole 5 5 taken m

pub before_a_row : (ready [] (told_row 6 97) ≡ Some 5) × (ready (told_row 10 97 ∷ []) (told_row 20 97) ≡ Some 19) × (ready (told_row 10 97 ∷ []) (told_row 10 98) ≡ None)
    × (ready (told_row 10 97 ∷ []) (messages.Resolved 20) ≡ None) × (ready (told_row 10 97 ∷ []) (told_row 9 97) ≡ None) × (ready (messages.Resolved 9 ∷ []) (told_row 10 97) ≡ Some 9)
before_a_row = (refl, refl, refl, refl, refl, refl)

-- nor within the snapshot of an initial feed of cursor 7
pub before_a_later_row : (ready_after whole 6 7 [] (told_row 7 97) ≡ None) × (ready_after whole 6 7 (told_row 7 97 ∷ []) (told_row 7 98) ≡ None)
    × (ready_after whole 6 7 (told_row 7 97 ∷ []) (told_row 8 97) ≡ Some 7) × (ready_after whole 6 7 [] (told_row 8 97) ≡ Some 7)
before_a_later_row = (refl, refl, refl, refl)

-- a transaction reads and scans what it wrote last, a delete too, and aborts after that
pub own_writes : replies_to [] ((0, Begin 10) ∷ (0, Put 10 a one) ∷ (0, Put 10 a two) ∷ (0, Get 10 a) ∷ (0, Scan 10 whole) ∷ (0, Del 10 a) ∷ (0, Get 10 a) ∷ (0, Scan 10 whole) ∷ (0, Abort 10) ∷ [])
    ≡ Started ∷ Written ∷ Written ∷ Found (Some two) ∷ Rows ((a, two) ∷ []) ∷ Written ∷ Found None ∷ Rows [] ∷ Aborted ∷ []
own_writes = refl

-- closed and the horizon stay where less is asked
pub no_way_back : replies_to [] ((0, Close 20) ∷ (0, Close 5) ∷ (0, CloseHard 7) ∷ (0, Collect 9) ∷ (0, Collect 4) ∷ [])
    ≡ Closed 20 0 ∷ Closed 20 0 ∷ Closed 20 0 ∷ Collected 9 0 ∷ Collected 9 0 ∷ []
no_way_back = refl

-- a protection holds the horizon, then a feed, and then closed
pub held_in_turn : replies_to [] ((0, Close 30) ∷ (1, Protect 5) ∷ (1, Open whole 7) ∷ (0, Collect 40) ∷ (1, Release 1) ∷ (0, Collect 40) ∷ (1, Cancel 1) ∷ (0, Collect 40) ∷ [])
    ≡ Closed 30 0 ∷ Protected 1 ∷ Opened 1 ∷ Collected 5 0 ∷ Released ∷ Collected 7 0 ∷ Cancelled ∷ Collected 30 0 ∷ []
held_in_turn = refl

-- the value of 3 and the delete of 5 are dropped: nothing is found at 6 either way. Below the horizon that is no longer so
abbrev dropped : List Effect
dropped = after [] ((0, Begin 3) ∷ (0, Put 3 a one) ∷ (0, Commit 3) ∷ (0, Begin 5) ∷ (0, Del 5 a) ∷ (0, Commit 5) ∷ (0, Begin 8) ∷ (0, Put 8 a two) ∷ (0, Commit 8) ∷ (0, Close 9) ∷ (0, Collect 6) ∷ [])

pub snapshots_of_dropped : (newest (left_version_of dropped a) 6 ≡ version_at 0 None) × (newest (committed_version_of dropped a) 6 ≡ version_at 5 None)
    × (newest (left_version_of dropped a) 9 ≡ version_at 8 (Some two)) × (newest (committed_version_of dropped a) 9 ≡ version_at 8 (Some two))
    × (newest (left_version_of dropped a) 4 ≡ version_at 0 None) × (newest (committed_version_of dropped a) 4 ≡ version_at 3 (Some one))
snapshots_of_dropped = (refl, refl, refl, refl, refl, refl)

-- a key that is written twice counts once, and what was aborted doesn't count
abbrev counted : List Effect
counted = after dropped ((0, Begin 10) ∷ (0, Put 10 a one) ∷ (0, Put 10 a two) ∷ (0, Put 10 b one) ∷ (0, Begin 11) ∷ (0, Put 11 a one) ∷ (0, Abort 11) ∷ [])

pub versions_counted : (length (versions_of counted) ≡ 5) × (length (dead_of counted) ≡ 2) × (length (left_versions counted) ≡ 3)
    × (replies_to counted ((0, Stats) ∷ []) ≡ replies.Stats 3 1 0 9 6 ∷ [])
versions_counted = (refl, refl, refl, refl)

-- a protection of 15 stops a collection through 20 there, also past another's release. Its own release lets that go on, and
-- statistics tell the counts before and after
abbrev held : List Effect
held = after [] ((0, Begin 10) ∷ (0, Put 10 a one) ∷ (0, Commit 10) ∷ (0, Begin 12) ∷ (0, Put 12 a two) ∷ (0, Commit 12) ∷ (0, Begin 18) ∷ (0, Del 18 a) ∷ (0, Commit 18) ∷ (0, Close 20)
    ∷ (1, Protect 15) ∷ (1, Protect 12) ∷ (1, Release 2) ∷ (0, Collect 20) ∷ [])

pub protection_holds : (horizon_of held ≡ 15) × (Stands 1 held) × (Stands 2 held → ⊥)
    × (replies_to held ((0, Stats) ∷ (1, Release 1) ∷ (0, Collect 20) ∷ (0, Stats) ∷ []) ≡ replies.Stats 2 0 0 20 15 ∷ Released ∷ Collected 20 2 ∷ replies.Stats 0 0 0 20 20 ∷ [])
protection_holds = (refl, (λ e. cc, tt), λ stands. stands.0 refl, refl)
