-- What an event did to the database: the way in to all other definitions.
--
-- A history h is a list of events, its newest first, and p the list of their effects, the newest first as well. So in
-- `f (e ∷ p)` the effect e came last, and p is all that came before it. Only what is legal, and gapless, is said of
-- events; all else is said of effects. Lists of messages and of rows stand in the order in which they are told.
-- A seat is one of the callers of the database, a number. t, i, j, k are timestamps, x and y keys, which are lists of
-- bytes, f and g numbers of feeds, v and w values.
--
-- A name in small letters computes: a number, a list, a test (`Bool`). A name that begins with a capital is a
-- proposition or a type (`Type 0`): × is "and", ⊎ "or", ↔ "exactly where", (n : A) × .. "there is an n", (n : A) → ..
-- "for all n", Unit "true", ⊥ "false"; .0, .1 .. are the parts of what × joins. Commands, replies, refusals and messages
-- are the types of `src/calls`, and the kinds of feeds that of `src/kind`, with their fields in the order in which they stand
-- there.
use Rattle.std.specs.Prelude.{ℕ, List, map, Bool, true, false, Option, Some, None}
use Rattle.spans.specs.declared.span.Span.{Span}
use Rattle.spans.specs.declared.kind.Kind.{Kind}
use Rattle.spans.specs.declared.calls.commands.Cmd.{Cmd}
use Rattle.spans.specs.declared.calls.commands.Cmd.TheVariants.{Begin, Get, Scan, Put, Del, Commit, Abort, Close, CloseHard, Protect, Release, Collect, Open, OpenInitial, OpenEvery, OpenInitialEvery, Poll, Cancel, ReadAt, ScanAt}
use Rattle.spans.specs.declared.calls.replies.Reply.{Reply}
use Rattle.spans.specs.declared.calls.replies.Reply.TheVariants.{Started, Found, Rows, Written, Committed, Aborted, Closed, Protected, Released, Collected, Opened, Messages, Cancelled, Refused}
use Rattle.spans.specs.declared.calls.replies.Refusal.TheVariants.{TooLate}
use Rattle.spans.specs.declared.calls.messages.Message.{Message}
use Rattle.spans.specs.declared.calls.events.Event.{Event}

-- what a write leaves at a key: a value, or none for a delete
abbrev pub After : Type 0
After = Option (List ℕ)

pub data Effect : Type 0 where
  Begins : (t seat : ℕ) → Effect
  Reads : (t : ℕ) (x : List ℕ) (found : After) → Effect
  Scans : (t : ℕ) (span : Span) (rows : List (List ℕ × List ℕ)) → Effect
  Writes : (t : ℕ) (x : List ℕ) (after : After) → Effect
  Commits : (t : ℕ) → Effect
  Aborts : (t : ℕ) → Effect
  -- `at`: the closed timestamp from then on
  Closes : (at : ℕ) → Effect
  -- `to`: what was asked; whoever is undecided at or below it is aborted
  HardCloses : (to at : ℕ) → Effect
  SnapshotReads : (t : ℕ) (x : List ℕ) (found : After) → Effect
  SnapshotScans : (t : ℕ) (span : Span) (rows : List (List ℕ × List ℕ)) → Effect
  Protects : (id t : ℕ) → Effect
  Releases : (id : ℕ) → Effect
  Collects : (horizon : ℕ) → Effect
  Opens : (feed seat : ℕ) (kind : Kind) (span : Span) (cursor : ℕ) → Effect
  Polls : (feed max : ℕ) (messages : List Message) → Effect
  Cancels : (feed : ℕ) → Effect
  NoEffect : Effect

-- a kind of feeds from its parts
abbrev pub kind_of : Bool → Option ℕ → Kind
kind_of initial gap = record { initial = initial; gap = gap }

-- what a seat's command did, by its reply: a refusal does nothing, but a write that is too late aborts its transaction
abbrev pub effect : ℕ → Cmd → Reply → Effect
effect seat (Begin t) Started = Begins t seat
effect seat (Get t x) (Found v) = Reads t x v
effect seat (Scan t span) (Rows rows) = Scans t span rows
effect seat (Put t x v) Written = Writes t x (Some v)
effect seat (Put t x v) (Refused TooLate) = Aborts t
effect seat (Del t x) Written = Writes t x None
effect seat (Del t x) (Refused TooLate) = Aborts t
effect seat (Commit t) (Committed keys) = Commits t
effect seat (Abort t) Aborted = Aborts t
effect seat (Close to) (Closed at aborted) = Closes at
effect seat (CloseHard to) (Closed at aborted) = HardCloses to at
effect seat (ReadAt t x) (Found v) = SnapshotReads t x v
effect seat (ScanAt t span) (Rows rows) = SnapshotScans t span rows
effect seat (Protect t) (Protected id) = Protects id t
effect seat (Release id) Released = Releases id
effect seat (Collect to) (Collected horizon removed) = Collects horizon
effect seat (Open span cursor) (Opened feed) = Opens feed seat (kind_of false None) span cursor
effect seat (OpenInitial span cursor) (Opened feed) = Opens feed seat (kind_of true None) span cursor
effect seat (OpenEvery span cursor gap) (Opened feed) = Opens feed seat (kind_of false (Some gap)) span cursor
effect seat (OpenInitialEvery span cursor gap) (Opened feed) = Opens feed seat (kind_of true (Some gap)) span cursor
effect seat (Poll feed max) (Messages ms) = Polls feed max ms
effect seat (Cancel feed) Cancelled = Cancels feed
effect seat cmd reply = NoEffect

-- the command that opens a feed of the kind
abbrev opening : Bool → Option ℕ → Span → ℕ → Cmd
opening false None span cursor = Open span cursor
opening true None span cursor = OpenInitial span cursor
opening false (Some gap) span cursor = OpenEvery span cursor gap
opening true (Some gap) span cursor = OpenInitialEvery span cursor gap

abbrev pub open_cmd : Kind → Span → ℕ → Cmd
open_cmd kind span cursor = opening kind.initial kind.gap span cursor

abbrev pub effect_of : Event → Effect
effect_of e = effect e.seat e.cmd e.reply

abbrev pub effects_of : List Event → List Effect
effects_of h = map effect_of h

-- an event from its parts, for the crates above
abbrev pub event : ℕ → ℕ → Cmd → Reply → Event
event n seat cmd reply = record { position = n; seat = seat; cmd = cmd; reply = reply }
