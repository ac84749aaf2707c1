use Rattle.word_lines.proofs.Joining.{command_written}
use Rattle.word_lines.proofs.Writing.{keeps_on, keeps_same, on_error}
use Rattle.word_lines.proofs.commands.put_command.Goals as goal

pub returns-clause-ok : goal.returns-clause-ok
returns-clause-ok c = command_written _ _ _ _ _ _ _ c.from.ensures c.in_ok-put_number.ensures.ok c.in_ok-put_words.ensures.ok c.in_ok-push.ensures.items

pub returns-in_err-put_number-clause-err : goal.returns-in_err-put_number-clause-err
returns-in_err-put_number-clause-err c = on_error _ _ _ c.in_err-put_number.ensures.err

pub returns-in_err-put_words-clause-err : goal.returns-in_err-put_words-clause-err
returns-in_err-put_words-clause-err c = on_error _ _ _ (keeps_on _ _ _ _ c.in_ok-put_number.ensures.ok c.in_err-put_words.ensures.err)

pub returns-in_err-push-clause-err : goal.returns-in_err-push-clause-err
returns-in_err-push-clause-err c = on_error _ _ _ (keeps_on _ _ _ _ c.in_ok-put_number.ensures.ok (keeps_on _ _ _ _ c.in_ok-put_words.ensures.ok (keeps_same _ _ c.in_err-push.ensures.items)))
