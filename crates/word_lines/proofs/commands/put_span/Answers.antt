use Rattle.word_lines.proofs.Writing.{error_on, on_error}
use Rattle.word_lines.proofs.commands.put_span.Goals as goal

pub returns-in_err-put_bound-clause-err : goal.returns-in_err-put_bound-clause-err
returns-in_err-put_bound-clause-err c = on_error _ _ _ c.in_err-put_bound.ensures.err

pub returns-clause-err : goal.returns-clause-err
returns-clause-err c = error_on _ _ _ _ _ c.in_ok-put_bound.ensures.ok c.put_bound-2.ensures.err
