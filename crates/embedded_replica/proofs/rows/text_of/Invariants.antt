use Rattle.std.proofs.Common.{◌≡◌, ◌++◌, flat_map}
use Rattle.word_lines.specs.Events.{row_line}
use Rattle.embedded_replica.proofs.rows.text_of.Given as goal

abbrev pub invariant-loop-key : goal.invariant-loop-key
invariant-loop-key l = l.text.items ++ flat_map row_line l.key-iterator ≡ flat_map row_line l.fn.rows
