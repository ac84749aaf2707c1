use Rattle.std.proofs.Common.{◌≡◌, ◌∙◌, ℕ, ◌+◌, List, [], ◌++◌, Result, Ok, Err, ap, subst}
use Rattle.std.proofs.lemmas.Result.{err_from_is_err_and}
use Rattle.sessions.specs.declared.devices.WriteFailed.{WriteFailed}
use Rattle.sessions.specs.Devices.{Writes, pending_of, HasTaken, HasWritten}
use Rattle.sessions.proofs.Transcripts.{begun_on, taken_before, taken_on}
use Rattle.sessions.proofs.output.Output.write_last.Goals as goal

-- the front is written, and then the rest
written_on : (w w' w'' : Writes) (bytes last : List ℕ) (r : Result (Unit {0}) WriteFailed) → HasTaken w.taken w'.taken bytes [] → w'.failures ≡ w.failures → HasWritten w' w'' last [] r → HasWritten w w'' (bytes ++ last) [] r
written_on w w' w'' bytes last (Ok x) t same h = (taken_on w.taken w'.taken w''.taken (bytes ++ last) last [] (taken_before w.taken w'.taken bytes [] last t) h.0, h.1 ∙ same)
written_on w w' w'' bytes last (Err x) t same h =
    (begun_on w.taken w'.taken w''.taken (bytes ++ last) last (taken_before w.taken w'.taken bytes [] last t) h.0, h.1 ∙ ap (λ (n : ℕ). n + 1) same)

pub returns-in_err-write_out-clause-written : goal.returns-in_err-write_out-clause-written
returns-in_err-write_out-clause-written g c =
    let h = c.in_err-write_out.ensures.written in
    let p = err_from_is_err_and c.from_residual.result c.from_residual.ensures.1 in
    rw p.1 ((h.0.0 ++ c.args.last.now, taken_before (g.K.Sink.writes c.args.sink.now).taken (g.K.Sink.writes c.write_out.new.sink).taken (pending_of c.args.self.now) h.0.0 c.args.last.now h.0.1), h.1)

pub returns-clause-written : goal.returns-clause-written
returns-clause-written g c =
    let w = g.K.Sink.writes c.args.sink.now in
    let w' = g.K.Sink.writes c.write_out.new.sink in
    let h = c.in_ok-write_out.ensures in
    let t : HasTaken w.taken w'.taken (pending_of c.args.self.now) [] = subst (λ (xs : List ℕ). HasTaken w.taken w'.taken (pending_of c.args.self.now) xs) h.all h.written.0 in
    written_on w w' (g.K.Sink.writes c.write_whole.new.sink) (pending_of c.args.self.now) c.args.last.now c.write_whole.result t h.written.1 c.write_whole.ensures
