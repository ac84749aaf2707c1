use Rattle.std.proofs.Common.{ℕ, ◌≡◌, ◌≤◌, ◌+◌, ◌-◌, ◌%◌, ◌/◌, ◌∙◌, nat_le, bit_and, if◌then◌else◌, true, false, Bool, refl, rules, arith, leb-true, leb-false}
use Rattle.std.proofs.lemmas.Nat.{and_mask}
use Rattle.timestamps.proofs.binary_search.step_up_to.Goals as goal

-- the high word of t - s
abbrev borrow_of : (s t : ℕ) → ℕ
borrow_of s t = (t + (340282366920938463463374607431768211456 - s)) % 340282366920938463463374607431768211456 / 18446744073709551616

and_ones : (n : ℕ) → n ≤ 18446744073709551615 → bit_and n 18446744073709551615 ≡ n
and_ones n fits = and_mask n 64 ∙ search rules

step_is : (s t n : ℕ) (b : Bool) → nat_le s t ≡ b → s ≤ 18446744073709551615 → t ≤ 18446744073709551615 → n ≤ 18446744073709551615 → bit_and n (18446744073709551615 - borrow_of s t) ≡ (if b then n else 0)
step_is s t n true le low high fits = let l = leb-true s t le in let none : borrow_of s t ≡ 0 = omega arith in rw none (and_ones n fits)
step_is s t n false gt low high fits = let l = leb-false s t gt in let all : borrow_of s t ≡ 18446744073709551615 = omega arith in rw all (search rules)

pub returns : goal.returns
returns c = rw (c.from.ensures, c.from-2.ensures) (step_is c.args.ts c.args.t c.args.step (nat_le c.args.ts c.args.t) refl (omega (arith, c.ranges.ts)) (omega (arith, c.ranges.t)) (omega (arith, c.ranges.step)))
