use Rattle.word_lines.proofs.Writing.{error_on, on_error}
use Rattle.word_lines.proofs.commands.put_opening_every.Goals as goal

pub returns-in_err-put_opening-clause-err : goal.returns-in_err-put_opening-clause-err
returns-in_err-put_opening-clause-err c = on_error _ _ _ c.in_err-put_opening.ensures.err

pub returns-clause-err : goal.returns-clause-err
returns-clause-err c = error_on _ _ _ _ _ c.in_ok-put_opening.ensures.ok c.put_named.ensures.err
