use Rattle.std.proofs.Common.{drop, ◌+◌, ◌≡◌}
use Rattle.feed.specs.Left.{count_within}
use Rattle.feed.proofs.room.count_within.Given as goal

-- what was counted, and what the rest of the room counts of the rest
abbrev pub invariant-loop-message : goal.invariant-loop-message
invariant-loop-message l = record {
  counted : l.count ≡ l.message-index;
  rest : l.count + count_within l.left (drop l.message-index l.messages) ≡ count_within l.bytes l.messages;
}
