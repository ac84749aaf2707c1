use Rattle.std.proofs.Common.{◌≡◌, drop, map}
use Rattle.word_lines.specs.Table.{row_of, row_view}
use Rattle.word_lines.proofs.table.form_among.Given as goal

abbrev pub invariant-loop-row : goal.invariant-loop-row
invariant-loop-row l = row_of (map row_view (drop l.row-index l.rows)) l.name ≡ row_of (map row_view l.rows) l.name
