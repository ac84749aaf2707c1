use Rattle.std.proofs.Common.{◌≡◌, ◌-◌, get_or, arith}
use Rattle.std.specs.Char.{digit_value}
use Rattle.json_lines.proofs.Digits.{at_least, digit_at}
use Rattle.json_lines.proofs.numbers.digits_value.Goals as goal

pub returns-in_err-tens : goal.returns-in_err-tens
returns-in_err-tens c = rw c.from_residual.ensures λ h. absurd (omega (arith, at_least c.loop-digit.number c.args.digits.now c.loop-digit.digit-index _ c.loop-digit-test.true c.loop-digit.invariant.value, h.1, c.in_err-tens.ensures))

pub returns-in_err-number : goal.returns-in_err-number
returns-in_err-number c = rw c.from_residual-in_err-number.ensures λ h.
    let d = get_or c.args.digits.now c.loop-digit.digit-index 0 in
    let value : digit_value d ≡ d - 48 = digit_at d c.if-not-is_ascii_digit.ensures.cases in
    absurd (omega (arith, at_least c.loop-digit.number c.args.digits.now c.loop-digit.digit-index _ c.loop-digit-test.true c.loop-digit.invariant.value, h.1, c.in_err-number.ensures, c.from.ensures, value, c.in_ok-tens.ensures))
