use Rattle.word_lines.proofs.Writing.{error_on, keeps_same, on_error}
use Rattle.word_lines.proofs.commands.put_word.Goals as goal

pub returns-in_err-push-clause-err : goal.returns-in_err-push-clause-err
returns-in_err-push-clause-err c = on_error _ _ _ (keeps_same _ _ c.in_err-push.ensures.items)

pub returns-clause-err : goal.returns-clause-err
returns-clause-err c = error_on _ _ _ _ _ c.in_ok-push.ensures.items c.put_spelling.ensures.err
