use Rattle.std.proofs.Common.{append_assoc}
use Rattle.report_lines.specs.Lines.{feed_line, opening_members, told_members, progress_members, number_or_null, line_of, up_to_end, text_of}
use Rattle.report_lines.proofs.lines.put_feed.Goals as goal

pub returns-clause-ok : goal.returns-clause-ok
unfolding feed_line opening_members told_members progress_members line_of up_to_end text_of number_or_null
returns-clause-ok c =
    let written = rw (c.from.ensures, c.bytes_of.ensures, c.bytes_of-2.ensures, c.parts_of-updated.ensures.ts, c.parts_of-updated.ensures.key, c.saturating_sub.ensures) at c.put_line.ensures.ok in
    simp (feed_line, opening_members, told_members, progress_members, append_assoc) written
