-- An answer that can't be written whole.
use Rattle.std.proofs.Common.{◌≡◌, ℕ, List, ◌++◌, Err, refl, arith, inl, inr}
use Rattle.sessions.specs.Devices.{Reads, Writes, EndsOnce, IsWrittenWhole}
use Rattle.sessions.specs.declared.ending.ServeEnd.{ServeEnd}
use Rattle.sessions.specs.declared.ending.ServeEnd.TheVariants as run
use Rattle.jobs.specs.declared.ending.End.{End}
use Rattle.jobs.specs.Ends.{IsAnswered, HasBegunAnswer, end_of_run}

pub unwritten : (answers : List ℕ → End → List ℕ → Type 0) (r r' : Reads) (w w' : Writes) (text : List ℕ) (e : End) (out : List ℕ) (failed : ServeEnd)
    → r'.given ≡ r.given ++ text → EndsOnce r r' → r'.failures ≡ r.failures → answers text e out → IsWrittenWhole out w w' (Err failed) → IsAnswered answers r r' w w' (end_of_run failed)
unwritten answers r r' w w' text e out run.Output read whole reads right h =
    let begun : HasBegunAnswer answers r r' w w' = record { text = text; read = read; whole = whole; end = e; out = out; right = right; begun = h.0 } in
    record { answered = inr (inr (inl (refl, begun))); failed = (omega (arith, reads), omega (arith, reads), h.1) }
unwritten answers r r' w w' text e out run.Memory read whole reads right h =
    let begun : HasBegunAnswer answers r r' w w' = record { text = text; read = read; whole = whole; end = e; out = out; right = right; begun = h.0 } in
    record { answered = inr (inr (inr (refl, inr begun))); failed = (reads, h.1) }
unwritten answers r r' w w' text e out _ read whole reads right h = absurd h
