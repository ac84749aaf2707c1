-- The first line of bytes, by where the first newline stands.
use Rattle.std.proofs.Common.{◌≡◌, ℕ, zero, suc, Bool, true, false, List, [], ◌∷◌, length, take, arith, refl, ap}
use Rattle.std.specs.Prelude.{◌==◌}
use Rattle.memchr.specs.Find.{NoneBefore, Nowhere, Passes, is_byte}
use Rattle.embedded.specs.Several.{first_line}

not_true : (b : Bool) → ¬ (b ≡ true) → b ≡ false
not_true true never = absurd (never refl)
not_true false _ = refl

-- where there is none, all bytes are the line
pub line_of_all : (bytes : List ℕ) → Nowhere (Passes (is_byte 10) bytes) 0 (length bytes) → bytes ≡ first_line bytes
unfolding first_line
line_of_all [] never = refl
line_of_all (b ∷ bytes) never =
    let other : (b == 10) ≡ false = not_true (b == 10) (never 0 (omega arith) (omega arith)) in
    rw other (ap (λ (line : List ℕ). b ∷ line) (line_of_all bytes (λ k low high is. never (suc k) (omega arith) (omega arith) is)))

-- the line ends with it
pub line_to : (bytes : List ℕ) (at : ℕ) → NoneBefore (Passes (is_byte 10) bytes) 0 (length bytes) at → Passes (is_byte 10) bytes at → take (suc at) bytes ≡ first_line bytes
unfolding first_line
line_to [] at first is = absurd (omega (arith, first.high))
line_to (b ∷ bytes) zero first is = rw is refl
line_to (b ∷ bytes) (suc at) first is =
    let other : (b == 10) ≡ false = not_true (b == 10) (first.before 0 (omega arith) (omega arith)) in
    let later : NoneBefore (Passes (is_byte 10) bytes) 0 (length bytes) at = record { low = omega arith; high = omega (arith, first.high); before = λ k low high newline. first.before (suc k) (omega arith) (omega arith) newline } in
    rw other (ap (λ (line : List ℕ). b ∷ line) (line_to bytes at later is))
