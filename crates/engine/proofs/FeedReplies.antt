-- The replies to a poll.
use Rattle.std.proofs.lemmas.Grind.{common_steps}
use Rattle.std.proofs.Common.{arith, List, Some, take, ℕ, ◌≡◌}
use Rattle.engine.proofs.Common.{AreLeft, IsAnswered, IsMovedBy, Kept, Message, Messages, Place, Poll, Row, messages_left}

-- the feed lives and is the seat's
pub poll_done : (k k' : Kept) (seat f max : ℕ) (place : Place) (rows : List Row) (ms : List Message) → k.feed f ≡ Some place → place.seat ≡ seat → AreLeft k.version k.committed place k.closed rows → ms ≡ take max (messages_left k.closed place rows) → IsMovedBy k k' f ms → IsAnswered k k' seat (Poll f max) (Messages ms)
poll_done k k' seat f max place rows ms lives owner left told moved = record { right = (rows, (λ other is mine. grind (arith, common_steps)), grind (arith, common_steps)); change = moved }
