use Rattle.std.proofs.Common.{refl}
use Rattle.word_lines.proofs.Joining.{echo_written}
use Rattle.word_lines.proofs.Writing.{keeps_on, keeps_same, on_error}
use Rattle.word_lines.proofs.events.put_echo.Goals as goal

pub returns-clause-ok : goal.returns-clause-ok
returns-clause-ok c =
    echo_written _ _ _ _ _ _ _ c.args.line.now _ _ _ _ c.requires refl c.in_ok-put_number.ensures.ok c.in_ok-push.ensures.items c.in_ok-extend_from_slice.ensures.items c.in_ok-extend_from_slice-2.ensures.items c.in_ok-put_reply.ensures.ok

pub returns-in_err-put_number-clause-err : goal.returns-in_err-put_number-clause-err
returns-in_err-put_number-clause-err c = on_error _ _ _ c.in_err-put_number.ensures.err

pub returns-in_err-push-clause-err : goal.returns-in_err-push-clause-err
returns-in_err-push-clause-err c = on_error _ _ _ (keeps_on _ _ _ _ c.in_ok-put_number.ensures.ok (keeps_same _ _ c.in_err-push.ensures.items))

pub returns-in_err-extend_from_slice-clause-err : goal.returns-in_err-extend_from_slice-clause-err
returns-in_err-extend_from_slice-clause-err c = on_error _ _ _ (keeps_on _ _ _ _ c.in_ok-put_number.ensures.ok (keeps_on _ _ _ _ c.in_ok-push.ensures.items (keeps_same _ _ c.in_err-extend_from_slice.ensures.items)))

pub returns-in_err-extend_from_slice-2-clause-err : goal.returns-in_err-extend_from_slice-2-clause-err
returns-in_err-extend_from_slice-2-clause-err c = on_error _ _ _ (keeps_on _ _ _ _ c.in_ok-put_number.ensures.ok (keeps_on _ _ _ _ c.in_ok-push.ensures.items (keeps_on _ _ _ _ c.in_ok-extend_from_slice.ensures.items (keeps_same _ _ c.in_err-extend_from_slice-2.ensures.items))))

pub returns-in_err-put_reply-clause-err : goal.returns-in_err-put_reply-clause-err
returns-in_err-put_reply-clause-err c = on_error _ _ _ (keeps_on _ _ _ _ c.in_ok-put_number.ensures.ok (keeps_on _ _ _ _ c.in_ok-push.ensures.items (keeps_on _ _ _ _ c.in_ok-extend_from_slice.ensures.items (keeps_on _ _ _ _ c.in_ok-extend_from_slice-2.ensures.items c.in_err-put_reply.ensures.err))))
