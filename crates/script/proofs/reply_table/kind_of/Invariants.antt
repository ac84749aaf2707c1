use Rattle.std.proofs.Common.{◌≡◌, drop, map}
use Rattle.script.specs.ReplyReading.{reply_row, kind_of}
use Rattle.script.proofs.reply_table.kind_of.Given as goal

abbrev pub invariant-loop-row : goal.invariant-loop-row
invariant-loop-row l = kind_of (map reply_row (drop l.row-index l.rows)) l.name ≡ kind_of (map reply_row l.rows) l.name
