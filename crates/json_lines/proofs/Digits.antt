-- The value of decimal digits, as it grows.
use Rattle.json_lines.proofs.Common.{IsAsciiDigit, at_drop_more, common_steps, digit_value, digits_value_after}
use Rattle.std.proofs.Common.{◌≡◌, ℕ, ◌+◌, ◌*◌, ◌-◌, ◌<◌, ◌≤◌, List, [], ◌∷◌, length, get_or, drop, arith}

pub after_ge : (n : ℕ) (digits : List ℕ) → n ≤ digits_value_after 10 n digits
after_ge n [] = omega arith
after_ge n (d ∷ digits) = omega (arith, after_ge (n * 10 + digit_value d) digits)

-- with one digit more it is at least so much
pub at_least : (n : ℕ) (digits : List ℕ) (i total : ℕ) → i < length digits → digits_value_after 10 n (drop i digits) ≡ total → n * 10 + digit_value (get_or digits i 0) ≤ total
at_least n digits i total lt so_far = grind (arith, common_steps, at_drop_more, after_ge)

-- the value of a decimal digit
pub digit_at : (c : ℕ) → IsAsciiDigit c → digit_value c ≡ c - 48
digit_at c digit = grind (arith, common_steps)
