use Rattle.std.proofs.Common.{◌≡◌, ◌<◌, ◌^◌, drop}
use Rattle.json_lines.proofs.Common.{all_ascii_digits, digits_value, digits_value_after}
use Rattle.json_lines.proofs.numbers.digits_value.Given as goal

abbrev pub invariant-loop-digit : goal.invariant-loop-digit
invariant-loop-digit l = record {
  small : l.number < 2 ^ 64;
  digits : all_ascii_digits (drop l.digit-index l.digits) ≡ all_ascii_digits l.digits;
  value : digits_value_after 10 l.number (drop l.digit-index l.digits) ≡ digits_value 10 l.digits;
}
