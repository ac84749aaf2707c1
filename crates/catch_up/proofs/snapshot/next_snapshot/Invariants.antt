use Rattle.std.specs.Option.{option_copied}
use Rattle.catch_up.proofs.Firsts.{IsSnapping}
use Rattle.catch_up.proofs.snapshot.next_snapshot.Given as goal

-- the rows of the keys before it
abbrev pub invariant-loop-key : goal.invariant-loop-key
invariant-loop-key l = IsSnapping l.store l.span (option_copied l.after) l.at l.n l.key-iterator l.rows.items
