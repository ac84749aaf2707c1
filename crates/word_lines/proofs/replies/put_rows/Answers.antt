use Rattle.word_lines.proofs.Writing.{keeps_text, keeps_then, on_error}
use Rattle.word_lines.proofs.replies.put_rows.Goals as goal

pub returns-in_err-put_row-clause-err : goal.returns-in_err-put_row-clause-err
returns-in_err-put_row-clause-err c = on_error _ _ _ (keeps_then _ _ _ (keeps_text _ _ _ c.loop-row.invariant) c.in_err-put_row.ensures.err)
