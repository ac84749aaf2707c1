use Rattle.std.proofs.Common.{◌≡◌, ◌-◌, ◌≤◌, length}
use Rattle.script.specs.EventLines.{row_line_at}
use Rattle.script.specs.Transcripts.{many_at}
use Rattle.script.proofs.TakeLines.{with_front}
use Rattle.script.proofs.following.take_rows.Given as goal

abbrev pub invariant-loop : goal.invariant-loop
invariant-loop l =
    (with_front l.rows.items (many_at (row_line_at l.format) (l.count - l.counter) l.lines) ≡ many_at (row_line_at l.format) l.count l.fn.lines)
    × (length l.lines.lines ≤ length l.fn.lines.lines)
