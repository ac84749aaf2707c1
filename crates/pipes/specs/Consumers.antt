-- Which consumers take the lines of a feed's polls, and what is kept of a replica for one that goes on with its rows
-- (this project's own).
use Rattle.std.specs.Prelude.{ℕ, List, ◌∷◌, ◌++◌, ◌≡◌, Some, reverse, [], Ok}
use Rattle.embedded_replica.specs.Consumers.{HasTaken, IsRefused}
use Rattle.embedded_replica.specs.declared.consumer.TakeError.{TakeError}
use Rattle.spans.specs.declared.calls.commands.Cmd.{Cmd}
use Rattle.word_lines.specs.Reading.{command_at}
use Rattle.word_lines.specs.Table.{table}
use Rattle.replica.specs.Right.{StartsFrom}
use Rattle.replica.specs.Rows.{AreRowsOf}
use Rattle.json_lines.specs.declared.fault.MessageFault.TheVariants as lines
use Rattle.spans.specs.declared.calls.messages.Message.TheVariants as messages
use Rattle.replica.specs.declared.fault.Fault.TheVariants as faults
use Rattle.embedded_replica.specs.declared.consumer.TakeError.TheVariants as takes
use Rattle.pipes.specs.Prelude.{Event, Feed, Follows, IsStartOf, Message, Replica, Start, Takes, Two, effects_of, feed_of, message_line, All, BeginsWith, IsPair, Pairs, flat_map, row_line, seeded_of, span_in, view_in}
use Rattle.pipes.specs.Followers.{told_in}
use Rattle.pipes.specs.Texts.{IsWritable}

-- The replica began as the consumer of feed n is to begin, and has taken the first of the messages that the history told the
-- feed. This one comes next. A message of another feed would contradict the law, and so would one that was taken before
pub record ComesNext (es : List Event) (n : ℕ) (r : Replica) (m : Message) : Type 0 where
  pub first : ℕ
  pub writable : IsWritable Two first es
  pub feed : Feed
  pub opened : feed_of (effects_of (reverse es)) n ≡ Some feed
  pub start : Start
  pub starts : IsStartOf (effects_of (reverse es)) feed start
  pub before : List Message
  pub behind : List Message
  pub told : told_in es n ≡ before ++ m ∷ behind
  pub follows : Follows r start before

-- it is out of memory, which it never is at a resolved message
abbrev pub IsOutOfMemoryAt : Message → TakeError → Type 0
IsOutOfMemoryAt (messages.Row r) (takes.Line lines.NoMemory) = Unit {0}
IsOutOfMemoryAt (messages.Row r) (takes.Message faults.NoMemory) = Unit {0}
IsOutOfMemoryAt _ _ = ⊥

-- the line of the message is taken as this message, and refused for want of memory alone
pub record TakesLine (r : Replica) (m : Message) : Type 0 where
  pub taken : (new : Replica) → HasTaken (message_line m) r new → Takes r new m
  pub refused : (error : TakeError) → IsRefused (message_line m) r error → IsOutOfMemoryAt m error

-- the rows are all that the replica has, and keep the format's limits, and the line opens a feed of its span at n
pub record IsKept (r : Replica) (n : ℕ) (line : List ℕ) (rows : Pairs) : Type 0 where
  pub all : AreRowsOf (view_in r) rows
  pub limits : All (IsPair Two) rows
  pub seat : ℕ
  pub command : Cmd
  pub read : command_at Two table 64 line ≡ Ok (seat, command)
  pub opens : seeded_of command ≡ Some (span_in r, n)

-- the new replica has taken nothing yet, and goes on from the old one, at n
pub record HasGoneOn (r : Replica) (n : ℕ) (new : Replica) : Type 0 where
  pub start : Start
  pub follows : Follows new start []
  pub from : StartsFrom start r n

-- whoever begins by the line and with the lines of the rows does so
abbrev pub GoOnFrom : Replica → ℕ → List ℕ → Pairs → Type 0
GoOnFrom r n line rows = (new : Replica) → BeginsWith line (flat_map row_line rows) new → HasGoneOn r n new
