use Rattle.std.proofs.Common.{List, ℕ, ◌++◌, refl, subst}
use Rattle.sessions.proofs.Common.{err_from_is_err_and, event_text}
use Rattle.sessions.specs.Devices.{pending_of, HasBegun, HasTaken}
use Rattle.sessions.proofs.Transcripts.{nothing_taken}
use Rattle.sessions.proofs.output.Output.put_event.Goals as goal

pub returns-in_err-write_event-clause-put : goal.returns-in_err-write_event-clause-put
returns-in_err-write_event-clause-put g c =
    let text = pending_of c.args.self.now ++ event_text c.args.event.now in
    let p = err_from_is_err_and c.from_residual.result c.from_residual.ensures.1 in
    rw (p.1, p.2) ((text, nothing_taken (g.K.Sink.writes c.args.sink.now).taken text), refl)

pub returns-in_err-write_full-clause-put : goal.returns-in_err-write_full-clause-put
returns-in_err-write_full-clause-put g c =
    let w = g.K.Sink.writes c.args.sink.now in let w' = g.K.Sink.writes c.write_full.new.sink in
    let h = c.in_err-write_full.ensures.written in
    let p = err_from_is_err_and c.from_residual-in_err-write_full.result c.from_residual-in_err-write_full.ensures.1 in
    rw (p.1, p.2) (subst (HasBegun w.taken w'.taken) c.in_ok-write_event.ensures.ok h.0, h.1)

pub returns-clause-put : goal.returns-clause-put
returns-clause-put g c =
    let w = g.K.Sink.writes c.args.sink.now in let w' = g.K.Sink.writes c.write_full.new.sink in
    let h = c.in_ok-write_full.ensures.written in
    (subst (λ (xs : List ℕ). HasTaken w.taken w'.taken xs (pending_of c.write_full.new.self)) c.in_ok-write_event.ensures.ok h.0, h.1)
