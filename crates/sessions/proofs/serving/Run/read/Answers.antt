use Rattle.std.proofs.Common.{◌≡◌, ◌∙◌, sym, ap, take, subst, List, ℕ, refl, Err, vec_len}
use Rattle.sessions.proofs.Common.{WantsMemory, byte_words_at, command_at, table}
use Rattle.sessions.specs.Waiting.{waiting}
use Rattle.sessions.proofs.Steps.{stop_memory, stop_fault}
use Rattle.sessions.proofs.serving.Run.read.Goals as goal

pub returns-in-Err-NoMemory-clause-err : goal.returns-in-Err-NoMemory-clause-err
returns-in-Err-NoMemory-clause-err c = λ r r' w w' events numbered h.
    let run = c.args.self.now in
    let read = rw c.in-Err-NoMemory.field-0-is at c.in-Err-NoMemory.ensures.memory in
    let wants : WantsMemory (byte_words_at run.terms.format table (vec_len run.callers.seats) (take c.args.count (waiting run.lines))) =
    subst (λ (k : ℕ). WantsMemory (byte_words_at run.terms.format table k (take c.args.count (waiting run.lines)))) c.count.ensures (subst (λ (xs : List ℕ). WantsMemory (byte_words_at run.terms.format table c.count.result xs)) c.line-text.ensures (read refl)) in
    stop_memory r r' w w' run events c.args.count wants h

pub returns-in-Err-Fault-clause-err : goal.returns-in-Err-Fault-clause-err
returns-in-Err-Fault-clause-err c = λ r r' w w' events numbered h.
    let run = c.args.self.now in
    let read : command_at run.terms.format table (vec_len run.callers.seats) (take c.args.count (waiting run.lines)) ≡ Err c.in-Err-Fault.fault =
    ap (λ (xs : List ℕ). command_at run.terms.format table (vec_len run.callers.seats) xs) (sym c.line-text.ensures) ∙ (ap (λ (k : ℕ). command_at run.terms.format table k c.line-text.result.now) (sym c.count.ensures) ∙ rw c.in-Err-Fault.field-0-is at c.in-Err-Fault.ensures.exact) in
    stop_fault r r' w w' run events c.args.count c.args.line c.in-Err-Fault.fault c.requires.0 c.requires.1 read numbered h
