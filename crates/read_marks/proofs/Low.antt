-- Each reader of the starts fits 64 bits.
use Rattle.read_marks.proofs.Common.{common_steps}
use Rattle.std.proofs.Common.{ℕ, List, Bool, false, cond, Result, Ok, Err, ◌≡◌, ◌≤◌, arith, subst, sym, map, max, nat_le}
use Rattle.std.specs.Prelude.{OnErr, OnOk}
use Rattle.read_marks.specs.Starts.{AreLow, reaches, step_at}
use Rattle.read_marks.specs.Spans.{raised}
use Rattle.read_marks.proofs.Raising.{Entries, forgotten_gone, step-written}

-- where each key has the latest reader that it had
pub low_alike : (es fs : Entries) → ((x : List ℕ) → step_at (reaches x) 0 fs ≡ step_at (reaches x) 0 es) → AreLow es → AreLow fs
low_alike es fs same low x = subst (λ n. n ≤ 18446744073709551615) (sym (same x)) (low x)

pub low_raised : (p : List ℕ → Bool) (ts : ℕ) (es fs : Entries) → fs ≡ raised p ts es → ts ≤ 18446744073709551615 → AreLow es → AreLow fs
low_raised p ts es fs is new low x = let old = low x in let now = step-written p (reaches x) (λ v. max v ts) false 0 es in grind (arith, common_steps)

pub low_forgotten : (through : ℕ) (es fs : Entries) → fs ≡ map (λ e. (e.0, cond (nat_le e.1 through) 0 e.1)) es → AreLow es → AreLow fs
low_forgotten through es fs is low x = let old = low x in let now = forgotten_gone (reaches x) through es in grind (arith, common_steps)

-- of a call that may fail, each way
pub either_way : {A E P : Type 0} (r : Result A E) → OnOk r P → OnErr r P → P
either_way (Ok x) ok err = ok
either_way (Err x) ok err = err
