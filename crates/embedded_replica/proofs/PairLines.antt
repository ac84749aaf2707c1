-- The rows of lines, read one after the other.
use Rattle.std.proofs.Common.{◌≡◌, ℕ, List, [], ◌∷◌, ◌++◌, length, Result, Ok, Err, refl, sym, ap, ◌∙◌, append_assoc}
use Rattle.std.proofs.lemmas.Bool.{eq-eqb}
use Rattle.std.proofs.lemmas.List.{append-nil}
use Rattle.embedded_replica.proofs.Common.{Fails, Pairs, Two}
use Rattle.spelled_words.specs.declared.fault.LineFault.{LineFault}
use Rattle.spelled_words.specs.declared.fault.ReadError.{ReadError}
use Rattle.spelled_words.specs.declared.fault.ReadError.TheVariants as errors
use Rattle.word_lines.specs.Reading.{◌>>=◌}
use Rattle.script.specs.EventLines.{lines_of, row_line_at}
use Rattle.script.proofs.CutLines.{lines_none}
use Rattle.embedded_replica.specs.Consumers.{pairs_of_lines, pairs_at}

-- rows that were read, and those that are read behind them
abbrev pub behind : Pairs → Result Pairs LineFault → Result Pairs LineFault
behind front read = read >>= λ pairs. Ok (front ++ pairs)

pub nothing_before : (read : Result Pairs LineFault) → behind [] read ≡ read
nothing_before (Ok pairs) = refl
nothing_before (Err f) = refl

regroup : (front : Pairs) (pair : List ℕ × List ℕ) (read : Result Pairs LineFault) → behind front (read >>= λ others. Ok (pair ∷ others)) ≡ behind (front ++ pair ∷ []) read
regroup front pair (Ok others) = ap (λ (xs : Pairs). Ok xs) (sym (append_assoc front (pair ∷ []) others))
regroup front pair (Err f) = refl

-- one line more is read
pub goes_on : (front : Pairs) (rest line others : List ℕ) (pair : List ℕ × List ℕ) (total : Result Pairs LineFault) → lines_of rest ≡ line ∷ lines_of others → row_line_at Two line ≡ Ok pair
    → behind front (pairs_at rest) ≡ total → behind (front ++ pair ∷ []) (pairs_at others) ≡ total
unfolding pairs_of_lines
goes_on front rest line others pair total cut read so_far =
    let one : behind front (pairs_at rest) ≡ behind (front ++ pair ∷ []) (pairs_at others) = rw (cut, read) (regroup front pair (pairs_at others)) in
    sym one ∙ so_far

-- a line is faulty
pub stops : (error : ReadError) (front : Pairs) (rest line others : List ℕ) (total : Result Pairs LineFault) → lines_of rest ≡ line ∷ lines_of others → Fails error (row_line_at Two line)
    → behind front (pairs_at rest) ≡ total → Fails error total
unfolding pairs_of_lines
stops errors.NoMemory front rest line others total cut fails so_far = tt
stops (errors.Fault f) front rest line others total cut fails so_far =
    let one : behind front (pairs_at rest) ≡ Err f = rw (cut, fails) refl in
    sym so_far ∙ one

-- no line is left
pub is_done : (front : Pairs) (rest : List ℕ) (total : Result Pairs LineFault) → length rest ≡ 0 → behind front (pairs_at rest) ≡ total → total ≡ Ok front
unfolding pairs_of_lines
is_done front rest total none so_far =
    let one : behind front (pairs_at rest) ≡ Ok front = rw (lines_none rest (eq-eqb (length rest) 0 none)) (ap (λ (xs : Pairs). Ok xs) (append-nil front)) in
    sym so_far ∙ one
