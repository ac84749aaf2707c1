use Rattle.mvto_rules.proofs.Ending.{IsEnding}
use Rattle.mvto_rules.proofs.room.find_end.Given as goal

-- how far the walk has come
abbrev pub invariant-loop-key : goal.invariant-loop-key
invariant-loop-key l = IsEnding l.store l.ts l.span l.fn.room.rows l.fn.room.bytes l.key-iterator l.room
