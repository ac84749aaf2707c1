use Rattle.std.proofs.Common.{◌≡◌, ◌++◌}
use Rattle.follow.proofs.Common.{flat_map, row_line}
use Rattle.follow.proofs.texts.put_rows.Given as goal

abbrev pub invariant-loop-key : goal.invariant-loop-key
invariant-loop-key l = l.out.items ++ flat_map row_line l.key-iterator ≡ l.initial.out.items ++ flat_map row_line l.fn.rows
