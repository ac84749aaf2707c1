use Rattle.std.proofs.Common.{◌≡◌}
use Rattle.plain_database.specs.Replies.{filled, write_rows}
use Rattle.plain_database.proofs.versions.scans.add_writes.Given as goal

-- with the rows of the writes that are left, all rows are there
abbrev pub invariant-loop-key : goal.invariant-loop-key
invariant-loop-key l = filled l.max l.rows.items (write_rows l.span l.ts l.key-iterator) ≡ filled l.max l.fn.rows.items (write_rows l.span l.fn.ts l.fn.writes)
