use Rattle.std.proofs.Common.{append_assoc}
use Rattle.report_lines.specs.Lines.{report_text}
use Rattle.report_lines.proofs.put_report.Goals as goal

pub returns-clause-ok : goal.returns-clause-ok
unfolding report_text
returns-clause-ok c =
    let written = rw (c.in_ok-put_protections.ensures.ok, c.in_ok-put_transactions.ensures.ok, c.in_ok-put_database.ensures.ok, c.deref.ensures.value, c.deref-2.ensures.value, c.deref-3.ensures.value) at c.put_feeds.ensures.ok in
    simp (report_text, append_assoc) (simp append_assoc at written)
