use Rattle.std.proofs.Common.{◌≡◌, ◌++◌, None}
use Rattle.std.specs.Vec.Iter.{into_iter_items}
use Rattle.jobs.proofs.Common.{lines_of, row_commands}
use Rattle.jobs.proofs.dump.put_rows.Given as goal

abbrev pub invariant-loop-row : goal.invariant-loop-row
invariant-loop-row l = l.out.items ++ lines_of (row_commands l.latest (into_iter_items l.row-iterator)) ≡ l.fn.out.items ++ lines_of (row_commands None (into_iter_items l.initial.row-iterator))
