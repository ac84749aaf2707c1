-- A command answered by what is kept: the reply, and what becomes of what is kept.
use Rattle.std.specs.Prelude.{false, Bool, List, None, Option, Some, is_some, nat_le, true, ℕ, ◌&&◌, ◌≡◌, ◌≤◌, ◌⊎◌}
use Rattle.kept.specs.Prelude.{Abort, Aborts, Begin, Begins, Cancel, Cancels, Close, CloseHard, Closes, Cmd, Collect, Collects, Commit, Commits, Del, Effect, Get, HardCloses, Kept, MAX, NoEffect, NoMemory, Open, OpenEvery, OpenInitial, OpenInitialEvery, Opens, Place, Poll, Polls, Protect, Protects, Put, ReadAt, Reads, Refused, Release, Releases, Reply, Row, Scan, ScanAt, Scans, SnapshotReads, SnapshotScans, Span, Stats, VersionName, Writes, effect, is_accepted, kind_of, may_lack_memory}
use Rattle.kept.specs.Changes.{IsAbortedBy, IsAlike, IsBegun, IsCancelledFrom, IsClosedAt, IsCollectedTo, IsCommittedBy, IsHardClosedAt, IsMovedBy, IsOpenedAt, IsProtectedBy, IsReadBy, IsReleasedFrom, IsScannedBy, IsWritten}
use Rattle.kept.specs.Places.{IsCollected, reached, AreNext}
use Rattle.kept.specs.Finding.{AreKeysOf, AreThose, IsNumberOf, IsOldest, is_open, refusal}
use Rattle.kept.specs.Marks.{IsLate}
use Rattle.kept.specs.Replies.{abort_reply, begin_reply, cancel_reply, close_hard_reply, close_reply, collect_reply, commit_reply, get_reply, open_reply, poll_reply, protect_reply, read_at_reply, release_reply, scan_at_reply, scan_reply, stats_reply, write_reply}

-- ---- replies that rest on what the layers find in what is kept, which is asked for only where the reply uses it

-- to a scan, by the keys of the span
abbrev pub IsScanReply : Kept → ℕ → ℕ → Span → Reply → Type 0
IsScanReply k seat t span r = (keys : List (List ℕ)) × (refusal k seat t ≡ None → AreKeysOf k span keys) × (r ≡ scan_reply k seat t keys)

-- to a write of x, by the test of its marks
abbrev pub IsWriteReply : Kept → ℕ → ℕ → List ℕ → Reply → Type 0
IsWriteReply k seat t x r = (late : Bool) × (refusal k seat t ≡ None → IsLate k x t late) × (r ≡ write_reply k seat t late)

-- to a commit, by how many keys have a version at its timestamp
abbrev pub IsCommitReply : Kept → ℕ → ℕ → Reply → Type 0
IsCommitReply k seat t r = (keys : ℕ) × (refusal k seat t ≡ None → IsNumberOf (λ x. is_some (k.version x t)) keys) × (r ≡ commit_reply k seat t keys)

-- to a closing, by the oldest undecided transaction
abbrev pub IsCloseReply : Kept → ℕ → Reply → Type 0
IsCloseReply k to r = (oldest : Option ℕ) × (to ≤ MAX → IsOldest k.transaction oldest) × (r ≡ close_reply k to oldest)

-- to a hard closing, by the undecided transactions at or below to
abbrev pub IsHardCloseReply : Kept → ℕ → Reply → Type 0
IsHardCloseReply k to r = (cut : List ℕ) × (to ≤ MAX → AreThose (λ t. nat_le t to && is_open (k.transaction t)) cut) × (r ≡ close_hard_reply k to cut)

-- to a scan at a closed timestamp, by the keys of the span
abbrev pub IsScanAtReply : Kept → ℕ → Span → Reply → Type 0
IsScanAtReply k t span r = (keys : List (List ℕ)) × (t ≤ k.closed → k.horizon ≤ t → AreKeysOf k span keys) × (r ≡ scan_at_reply k t keys)

-- to a collection, by what holds it back and by the versions that are dead by the horizon that it reaches
abbrev pub IsCollectReply : Kept → ℕ → Reply → Type 0
IsCollectReply k to r = (protection : Option ℕ) × (floor : Option ℕ) × (dropped : List VersionName) × (to ≤ MAX → IsCollected k (reached k to protection floor) protection floor dropped) × (r ≡ collect_reply to (reached k to protection floor) dropped)

-- to a poll, by the next rows of the seat's own feed
abbrev pub IsPollReply : Kept → ℕ → ℕ → ℕ → Reply → Type 0
IsPollReply k seat f max r = (rows : List Row) × ((place : Place) → k.feed f ≡ Some place → place.seat ≡ seat → AreNext k place max rows) × (r ≡ poll_reply k seat f max rows)

-- with the numbers of the database, by the versions, the undecided transactions and the live feeds
abbrev pub IsStatsReply : Kept → Reply → Type 0
IsStatsReply k r = (versions : List VersionName) × (undecided : List ℕ) × (feeds : List ℕ) × AreThose (λ v. is_some (k.version v.key v.ts)) versions × AreThose (λ t. is_open (k.transaction t)) undecided × AreThose (λ f. is_some (k.feed f)) feeds × (r ≡ stats_reply k versions undecided feeds)

-- the reply to a seat's command, by what is kept and what the layers find in it
abbrev pub IsReplyOf : Kept → ℕ → Cmd → Reply → Type 0
IsReplyOf k seat (Begin t) r = r ≡ begin_reply k t
IsReplyOf k seat (Get t x) r = r ≡ get_reply k seat t x
IsReplyOf k seat (Scan t span) r = IsScanReply k seat t span r
IsReplyOf k seat (Put t x v) r = IsWriteReply k seat t x r
IsReplyOf k seat (Del t x) r = IsWriteReply k seat t x r
IsReplyOf k seat (Commit t) r = IsCommitReply k seat t r
IsReplyOf k seat (Abort t) r = r ≡ abort_reply k seat t
IsReplyOf k seat (Close to) r = IsCloseReply k to r
IsReplyOf k seat (CloseHard to) r = IsHardCloseReply k to r
IsReplyOf k seat (ReadAt t x) r = r ≡ read_at_reply k t x
IsReplyOf k seat (ScanAt t span) r = IsScanAtReply k t span r
IsReplyOf k seat (Protect t) r = r ≡ protect_reply k t
IsReplyOf k seat (Release id) r = r ≡ release_reply k id
IsReplyOf k seat (Collect to) r = IsCollectReply k to r
IsReplyOf k seat (Open span cursor) r = r ≡ open_reply (kind_of false None) k cursor
IsReplyOf k seat (OpenInitial span cursor) r = r ≡ open_reply (kind_of true None) k cursor
IsReplyOf k seat (OpenEvery span cursor gap) r = r ≡ open_reply (kind_of false (Some gap)) k cursor
IsReplyOf k seat (OpenInitialEvery span cursor gap) r = r ≡ open_reply (kind_of true (Some gap)) k cursor
IsReplyOf k seat (Poll f max) r = IsPollReply k seat f max r
IsReplyOf k seat (Cancel f) r = r ≡ cancel_reply k f
IsReplyOf k seat Stats r = IsStatsReply k r

-- what an effect changes of what is kept
abbrev pub IsChangedBy : Kept → Kept → Effect → Type 0
IsChangedBy k k' (Begins t seat) = IsBegun k k' t seat
IsChangedBy k k' (Reads t x v) = IsReadBy k k' t x
IsChangedBy k k' (Scans t span rows) = IsScannedBy k k' t span
IsChangedBy k k' (Writes t x a) = IsWritten k k' t x a
IsChangedBy k k' (Commits t) = IsCommittedBy k k' t
IsChangedBy k k' (Aborts t) = IsAbortedBy k k' t
IsChangedBy k k' (Closes n) = IsClosedAt k k' n
IsChangedBy k k' (HardCloses to n) = IsHardClosedAt k k' to n
IsChangedBy k k' (SnapshotReads t x v) = IsAlike k k'
IsChangedBy k k' (SnapshotScans t span rows) = IsAlike k k'
IsChangedBy k k' (Protects id t) = IsProtectedBy k k' id t
IsChangedBy k k' (Releases id) = IsReleasedFrom k k' id
IsChangedBy k k' (Collects n) = IsCollectedTo k k' n
IsChangedBy k k' (Opens f seat kind span cursor) = IsOpenedAt k k' f seat kind span cursor
IsChangedBy k k' (Polls f max ms) = IsMovedBy k k' f ms
IsChangedBy k k' (Cancels f) = IsCancelledFrom k k' f
IsChangedBy k k' NoEffect = IsAlike k k'

-- the reply is right by what was kept, and what is kept has changed as its effect wants
pub record IsAnswered (k k' : Kept) (seat : ℕ) (cmd : Cmd) (reply : Reply) : Type 0 where
  pub right : IsReplyOf k seat cmd reply
  pub change : IsChangedBy k k' (effect seat cmd reply)

-- the command would not be refused
abbrev pub IsAccepting : Kept → ℕ → Cmd → Type 0
IsAccepting k seat (Poll f max) = (place : Place) × (k.feed f ≡ Some place) × (place.seat ≡ seat)
IsAccepting k seat cmd = (reply : Reply) × IsReplyOf k seat cmd reply × (is_accepted reply ≡ true)

-- the engine takes memory for the command: for all that may want it, but for no collection
abbrev pub takes_memory : Cmd → Bool
takes_memory (Collect to) = false
takes_memory cmd = may_lack_memory cmd

-- memory was wanting in the place of a reply that is no refusal, and nothing has changed
pub record IsWanting (k k' : Kept) (seat : ℕ) (cmd : Cmd) : Type 0 where
  pub may : takes_memory cmd ≡ true
  pub accepting : IsAccepting k seat cmd
  pub alike : IsAlike k k'

-- a command of a seat is answered by this reply, or memory was wanting
abbrev pub IsStep : Kept → Kept → ℕ → Cmd → Reply → Type 0
IsStep k k' seat cmd reply = IsAnswered k k' seat cmd reply ⊎ ((reply ≡ Refused NoMemory) × IsWanting k k' seat cmd)
