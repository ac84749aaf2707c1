use Rattle.std.proofs.Common.{ℕ, ◌+◌, ◌∙◌, ap}
use Rattle.std.proofs.lemmas.Result.{err_from_is_err_and}
use Rattle.sessions.specs.Devices.{pending_of}
use Rattle.sessions.proofs.Transcripts.{begun_on}
use Rattle.sessions.proofs.lines.Lines.next_line.Goals as goal

pub returns-in_err-write_out-clause-sought : goal.returns-in_err-write_out-clause-sought
returns-in_err-write_out-clause-sought g c =
    let w = g.K.Sink.writes c.args.sink.now in
    let w' = g.K.Sink.writes c.loop-output.sink in
    let w'' = g.K.Sink.writes c.write_out.new.sink in
    let i = c.loop-output.invariant in
    let h = c.in_err-write_out.ensures.written in
    let p = err_from_is_err_and c.from_residual.result c.from_residual.ensures.1 in
    rw (p.1, p.2) (begun_on w.taken w'.taken w''.taken (pending_of c.args.output.now) (pending_of c.loop-output.output) i.2.0 h.0, i.1, h.1 ∙ ap (λ (n : ℕ). n + 1) i.2.1)
