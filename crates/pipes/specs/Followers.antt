-- Which followers follow a feed of a history, and what they are to take and to show (this project's own).
use Rattle.std.specs.Prelude.{ℕ, List, [], ◌∷◌, ◌++◌, ◌≡◌, Some, reverse}
use Rattle.pipes.specs.Prelude.{Effect, Event, Feed, FollowOptions, IsStartOf, MayHold, Message, Reads, Writes, effects_of, feed_of, flat_map, message_line, told_to}
use Rattle.spans.specs.declared.calls.messages.Message.TheVariants as messages
use Rattle.spans.specs.Consumer.{view_of}
use Rattle.spans.specs.Serial.{Map, map_at, span_part}
use Rattle.ticket_lock.specs.Lists.{StartsWith}
use Rattle.follow.specs.declared.ending.FollowEnd.{FollowEnd}
use Rattle.follow.specs.declared.ending.FollowEnd.TheVariants as ends
use Rattle.follow.specs.declared.fault.FollowFault.{FollowFault}
use Rattle.follow.specs.Ends.{IsFollowed}
use Rattle.follow.specs.Following.{start_of, followed_at, followed_through}
use Rattle.follow.specs.Reports.{IsFollowReport, shown_before}
use Rattle.pipes.specs.Texts.{IsWritable}

-- the follower's options are those of the feed that was opened: its span, and a start with which its consumer is to begin
pub record Follows (p : List Effect) (n : ℕ) (feed : Feed) (o : FollowOptions) : Type 0 where
  pub opened : feed_of p n ≡ Some feed
  pub span : o.span ≡ feed.span
  pub starts : IsStartOf p feed (start_of o.span o.start)

-- the same of a history that has a text in the follower's format. A follower of another feed's span would contradict the law,
-- and so would a start with other rows than the span has at the feed's cursor
pub record IsFollowing (es : List Event) (o : FollowOptions) (n : ℕ) : Type 0 where
  pub first : ℕ
  pub writable : IsWritable o.format first es
  pub feed : Feed
  pub follows : Follows (effects_of (reverse es)) n feed o

-- what a history told a feed, the oldest message first
abbrev pub told_in : List Event → ℕ → List Message
told_in es n = told_to (effects_of (reverse es)) n

-- the lines of these messages, one behind the other
abbrev pub told_lines : List Event → ℕ → List ℕ
told_lines es n = flat_map message_line (told_in es n)

-- of a text the follower takes these messages and no others, and ends early at no line
abbrev pub TakesAll : FollowOptions → List ℕ → List Message → Type 0
TakesAll o text ms = followed_at o text ≡ followed_through ms

-- the rows that a follower has after the messages
abbrev pub rows_after : FollowOptions → List Message → Map
rows_after o ms = view_of (start_of o.span o.start).rows ms

-- rows are the feed's span's part of the map at t
abbrev pub AreMapAt : List Effect → Feed → ℕ → Map → Type 0
AreMapAt p feed t rows = (x : List ℕ) → rows x ≡ span_part feed.span (map_at p t) x

-- what is told of the messages is the map's. Behind one that resolves a timestamp the rows are the map there. Before one that
-- shows the rows to be complete, where that is told, they are the map at the timestamp that is told
pub record TellsMaps (p : List Effect) (feed : Feed) (o : FollowOptions) (ms : List Message) : Type 0 where
  pub resolved : (before behind : List Message) (t : ℕ) → ms ≡ before ++ messages.Resolved t ∷ behind
      → AreMapAt p feed t (rows_after o (before ++ messages.Resolved t ∷ []))
  pub complete : (before behind : List Message) (m : Message) (t : ℕ) → ms ≡ before ++ m ∷ behind → shown_before o before m ≡ Some t
      → AreMapAt p feed t (rows_after o before)

-- how a follower of a text with these messages ended: it took the first of them. Where it was done it took and reported them
-- all. No line was at fault, and line 0 is none: rows to begin with may be
pub record IsReported (o : FollowOptions) (ms took : List Message) (output : List ℕ) (e : FollowEnd) : Type 0 where
  pub begins : StartsWith ms took
  pub whole : e ≡ ends.Done → (took ≡ ms) × IsFollowReport o ms output
  pub faultless : (line : ℕ) (fault : FollowFault) → e ≡ ends.Fault line fault → line ≡ 0

-- each follower that has read the text, or its beginning, ended so
abbrev pub ReportsAll : FollowOptions → List ℕ → List Message → Type 0
ReportsAll o text ms = (r r' : Reads) (w w' : Writes) (e : FollowEnd) (s : IsFollowed o r r' w w' e)
    → MayHold s.input r'.ended text → IsReported o ms s.messages s.output e
