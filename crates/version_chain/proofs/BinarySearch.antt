-- A search by halves takes at most as many steps as what it searches has binary digits.
use Rattle.std.proofs.lemmas.Grind.{common_steps}
use Rattle.std.proofs.Common.{ℕ, zero, suc, ◌+◌, ◌/◌, ◌^◌, ◌<◌, ◌≤◌, arith}

-- what is left to search has as many binary digits as there are steps left
abbrev pub AreLeft : (size count start digits : ℕ) → Type 0
AreLeft size count start digits = (e : ℕ) × (size < 2 ^ e) × (count + e ≤ start + digits)

pub half_is_left : (size half count start digits : ℕ) → 0 < size → half ≤ size / 2 → AreLeft size count start digits → AreLeft half (suc count) start digits
half_is_left size half count start digits some less (zero, small, room) = absurd (omega arith)
half_is_left size half count start digits some less (suc e, small, room) = grind (arith, common_steps)
