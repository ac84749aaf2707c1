use Rattle.word_lines.proofs.Writing.{error_on, on_error}
use Rattle.word_lines.proofs.commands.put_pair.Goals as goal

pub returns-in_err-put_named-clause-err : goal.returns-in_err-put_named-clause-err
returns-in_err-put_named-clause-err c = on_error _ _ _ c.in_err-put_named.ensures.err

pub returns-clause-err : goal.returns-clause-err
returns-clause-err c = error_on _ _ _ _ _ c.in_ok-put_named.ensures.ok c.put_named-2.ensures.err
