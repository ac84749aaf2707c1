use Rattle.std.proofs.Common.{append_assoc}
use Rattle.report_lines.specs.Lines.{database_line, limit_members, version_members, number_or_null, line_of, up_to_end, text_of}
use Rattle.report_lines.proofs.lines.put_database.Goals as goal

pub returns-clause-ok : goal.returns-clause-ok
unfolding database_line limit_members version_members line_of up_to_end text_of number_or_null
returns-clause-ok c = let oldest = rw c.deref.ensures.value at c.oldest_of-oldest.ensures in
    simp (database_line, limit_members, version_members, append_assoc, ← oldest, ← c.told_of-holder_number.ensures.word, ← c.told_of-holder_number.ensures.number, ← c.limit-limit.ensures.exact) c.put_line.ensures.ok
