use Rattle.word_lines.proofs.Writing.{error_on, keeps_same, on_error}
use Rattle.word_lines.proofs.commands.put_named.Goals as goal

pub returns-in_err-extend_from_slice-clause-err : goal.returns-in_err-extend_from_slice-clause-err
returns-in_err-extend_from_slice-clause-err c = on_error _ _ _ (keeps_same _ _ c.in_err-extend_from_slice.ensures.items)

pub returns-clause-err : goal.returns-clause-err
returns-clause-err c = error_on _ _ _ _ _ c.in_ok-extend_from_slice.ensures.items c.put_number.ensures.err
