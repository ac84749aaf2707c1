use Rattle.word_lines.proofs.Writing.{error_on, keeps_on, keeps_same, on_error}
use Rattle.word_lines.proofs.replies.put_reply.Goals as goal

pub returns-in_err-put_words-clause-err : goal.returns-in_err-put_words-clause-err
returns-in_err-put_words-clause-err c = on_error _ _ _ c.in_err-put_words.ensures.err

pub returns-in_err-push-clause-err : goal.returns-in_err-push-clause-err
returns-in_err-push-clause-err c = on_error _ _ _ (keeps_on _ _ _ _ c.in_ok-put_words.ensures.ok (keeps_same _ _ c.in_err-push.ensures.items))

pub returns-clause-err : goal.returns-clause-err
returns-clause-err c = error_on _ _ _ _ _ c.in_ok-put_words.ensures.ok (error_on _ _ _ _ _ c.in_ok-push.ensures.items c.put_following.ensures.err)
