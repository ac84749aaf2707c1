use Rattle.std.specs.Option.{option_copied}
use Rattle.catch_up.proofs.Walk.{IsWalking}
use Rattle.catch_up.proofs.rows.next_rows.Given as goal

abbrev pub invariant-loop : goal.invariant-loop
invariant-loop l = IsWalking l.store l.span l.ts (option_copied l.key) l.through l.n l.versions l.missing l.rows.items
