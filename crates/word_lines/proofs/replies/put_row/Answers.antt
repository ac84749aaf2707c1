use Rattle.word_lines.proofs.Writing.{keeps_on, keeps_same, on_error}
use Rattle.word_lines.proofs.replies.put_row.Goals as goal

pub returns-in_err-extend_from_slice-clause-err : goal.returns-in_err-extend_from_slice-clause-err
returns-in_err-extend_from_slice-clause-err c = on_error _ _ _ (keeps_same _ _ c.in_err-extend_from_slice.ensures.items)

pub returns-in_err-put_word-clause-err : goal.returns-in_err-put_word-clause-err
returns-in_err-put_word-clause-err c = on_error _ _ _ (keeps_on _ _ _ _ c.in_ok-extend_from_slice.ensures.items c.in_err-put_word.ensures.err)

pub returns-in_err-put_word-2-clause-err : goal.returns-in_err-put_word-2-clause-err
returns-in_err-put_word-2-clause-err c = on_error _ _ _ (keeps_on _ _ _ _ c.in_ok-extend_from_slice.ensures.items (keeps_on _ _ _ _ c.in_ok-put_word.ensures.ok c.in_err-put_word-2.ensures.err))

pub returns-in_err-push-clause-err : goal.returns-in_err-push-clause-err
returns-in_err-push-clause-err c = on_error _ _ _ (keeps_on _ _ _ _ c.in_ok-extend_from_slice.ensures.items (keeps_on _ _ _ _ c.in_ok-put_word.ensures.ok (keeps_on _ _ _ _ c.in_ok-put_word-2.ensures.ok (keeps_same _ _ c.in_err-push.ensures.items))))
