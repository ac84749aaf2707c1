use Rattle.std.proofs.Common.{◌≡◌, ℕ, ◌+◌, ◌<◌, ◌≤◌, ◌^◌, ◌++◌, ◌∙◌, length, decimal, vec_len, Vec, arith}
use Rattle.word_lines.proofs.Common.{Global, LineFault}
use Rattle.word_lines.specs.Faults.{code_of, name_of}
use Rattle.word_lines.proofs.Writing.{keeps_on, keeps_same, numbered, on_error}
use Rattle.word_lines.proofs.events.put_fault.Goals as goal

coded : (f : LineFault) (old new : Vec ℕ Global) (n : ℕ) → n ≡ code_of f → new.items ≡ old.items ++ decimal n → vec_len new ≤ vec_len old + 20
coded f old new n is written = let small : n < 2 ^ 64 = grind arith in numbered old new n small written

short_name : (f : LineFault) → length (name_of f) ≤ 14
short_name f = grind arith

pub returns-in_err-push-clause-room : goal.returns-in_err-push-clause-room
returns-in_err-push-clause-room c =
    let line = numbered c.extend_from_slice.new.self c.put_number.new.out c.args.line c.ranges.line.fits c.in_ok-put_number.ensures.ok in
    grind arith

pub returns-in_err-put_number-2-clause-room : goal.returns-in_err-put_number-2-clause-room
returns-in_err-put_number-2-clause-room c =
    let line = numbered c.extend_from_slice.new.self c.put_number.new.out c.args.line c.ranges.line.fits c.in_ok-put_number.ensures.ok in
    grind arith

pub returns-in_err-push-2-clause-room : goal.returns-in_err-push-2-clause-room
returns-in_err-push-2-clause-room c =
    let line = numbered c.extend_from_slice.new.self c.put_number.new.out c.args.line c.ranges.line.fits c.in_ok-put_number.ensures.ok in
    let code = coded c.args.fault c.push.new.self c.put_number-2.new.out c.from.result (c.from.ensures ∙ c.code.ensures) c.in_ok-put_number-2.ensures.ok in
    grind arith

pub returns-in_err-extend_from_slice-2-clause-room : goal.returns-in_err-extend_from_slice-2-clause-room
returns-in_err-extend_from_slice-2-clause-room c =
    let line = numbered c.extend_from_slice.new.self c.put_number.new.out c.args.line c.ranges.line.fits c.in_ok-put_number.ensures.ok in
    let code = coded c.args.fault c.push.new.self c.put_number-2.new.out c.from.result (c.from.ensures ∙ c.code.ensures) c.in_ok-put_number-2.ensures.ok in
    let name = short_name c.args.fault in
    grind arith

pub returns-in_err-push-3-clause-room : goal.returns-in_err-push-3-clause-room
returns-in_err-push-3-clause-room c =
    let line = numbered c.extend_from_slice.new.self c.put_number.new.out c.args.line c.ranges.line.fits c.in_ok-put_number.ensures.ok in
    let code = coded c.args.fault c.push.new.self c.put_number-2.new.out c.from.result (c.from.ensures ∙ c.code.ensures) c.in_ok-put_number-2.ensures.ok in
    let name = short_name c.args.fault in
    grind arith

pub returns-in_err-extend_from_slice-clause-err : goal.returns-in_err-extend_from_slice-clause-err
returns-in_err-extend_from_slice-clause-err c = on_error _ _ _ (keeps_same _ _ c.in_err-extend_from_slice.ensures.items)

pub returns-in_err-put_number-clause-err : goal.returns-in_err-put_number-clause-err
returns-in_err-put_number-clause-err c = on_error _ _ _ (keeps_on _ _ _ _ c.in_ok-extend_from_slice.ensures.items c.in_err-put_number.ensures.err)

pub returns-in_err-push-clause-err : goal.returns-in_err-push-clause-err
returns-in_err-push-clause-err c = on_error _ _ _ (keeps_on _ _ _ _ c.in_ok-extend_from_slice.ensures.items (keeps_on _ _ _ _ c.in_ok-put_number.ensures.ok (keeps_same _ _ c.in_err-push.ensures.items)))

pub returns-in_err-put_number-2-clause-err : goal.returns-in_err-put_number-2-clause-err
returns-in_err-put_number-2-clause-err c = on_error _ _ _ (keeps_on _ _ _ _ c.in_ok-extend_from_slice.ensures.items (keeps_on _ _ _ _ c.in_ok-put_number.ensures.ok (keeps_on _ _ _ _ c.in_ok-push.ensures.items c.in_err-put_number-2.ensures.err)))

pub returns-in_err-push-2-clause-err : goal.returns-in_err-push-2-clause-err
returns-in_err-push-2-clause-err c = on_error _ _ _ (keeps_on _ _ _ _ c.in_ok-extend_from_slice.ensures.items (keeps_on _ _ _ _ c.in_ok-put_number.ensures.ok (keeps_on _ _ _ _ c.in_ok-push.ensures.items (keeps_on _ _ _ _ c.in_ok-put_number-2.ensures.ok (keeps_same _ _ c.in_err-push-2.ensures.items)))))

pub returns-in_err-extend_from_slice-2-clause-err : goal.returns-in_err-extend_from_slice-2-clause-err
returns-in_err-extend_from_slice-2-clause-err c = on_error _ _ _ (keeps_on _ _ _ _ c.in_ok-extend_from_slice.ensures.items (keeps_on _ _ _ _ c.in_ok-put_number.ensures.ok (keeps_on _ _ _ _ c.in_ok-push.ensures.items (keeps_on _ _ _ _ c.in_ok-put_number-2.ensures.ok (keeps_on _ _ _ _ c.in_ok-push-2.ensures.items (keeps_same _ _ c.in_err-extend_from_slice-2.ensures.items))))))

pub returns-in_err-push-3-clause-err : goal.returns-in_err-push-3-clause-err
returns-in_err-push-3-clause-err c = on_error _ _ _ (keeps_on _ _ _ _ c.in_ok-extend_from_slice.ensures.items (keeps_on _ _ _ _ c.in_ok-put_number.ensures.ok (keeps_on _ _ _ _ c.in_ok-push.ensures.items (keeps_on _ _ _ _ c.in_ok-put_number-2.ensures.ok (keeps_on _ _ _ _ c.in_ok-push-2.ensures.items (keeps_on _ _ _ _ c.in_ok-extend_from_slice-2.ensures.items (keeps_same _ _ c.in_err-push-3.ensures.items)))))))
