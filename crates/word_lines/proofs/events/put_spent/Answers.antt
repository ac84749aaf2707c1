use Rattle.std.proofs.Common.{arith}
use Rattle.word_lines.proofs.Writing.{keeps_on, keeps_same, numbered, on_error}
use Rattle.word_lines.proofs.events.put_spent.Goals as goal

pub returns-in_err-push-clause-room : goal.returns-in_err-push-clause-room
returns-in_err-push-clause-room c =
    let more = numbered c.extend_from_slice.new.self c.put_number.new.out c.args.line c.ranges.line.fits c.in_ok-put_number.ensures.ok in
    grind arith

pub returns-in_err-extend_from_slice-clause-err : goal.returns-in_err-extend_from_slice-clause-err
returns-in_err-extend_from_slice-clause-err c = on_error _ _ _ (keeps_same _ _ c.in_err-extend_from_slice.ensures.items)

pub returns-in_err-put_number-clause-err : goal.returns-in_err-put_number-clause-err
returns-in_err-put_number-clause-err c = on_error _ _ _ (keeps_on _ _ _ _ c.in_ok-extend_from_slice.ensures.items c.in_err-put_number.ensures.err)

pub returns-in_err-push-clause-err : goal.returns-in_err-push-clause-err
returns-in_err-push-clause-err c = on_error _ _ _ (keeps_on _ _ _ _ c.in_ok-extend_from_slice.ensures.items (keeps_on _ _ _ _ c.in_ok-put_number.ensures.ok (keeps_same _ _ c.in_err-push.ensures.items)))
