use Rattle.std.proofs.Common.{[], ◌∷◌, ◌++◌, refl}
use Rattle.std.proofs.lemmas.Result.{err_from_is_err_and}
use Rattle.sessions.specs.declared.ending.ServeEnd.TheVariants as end
use Rattle.sessions.proofs.Steps.{go_on, stop_sought, unread}
use Rattle.sessions.proofs.serving.Run.line.Goals as goal

pub returns-in_err-seat-clause-err : goal.returns-in_err-seat-clause-err
returns-in_err-seat-clause-err g c =
    let p = err_from_is_err_and c.from_residual.result c.from_residual.ensures.1 in
    rw (p.1, p.2) (λ r r' w events numbered h. c.in_err-seat.ensures.err r r' w (g.K.Sink.writes c.args.output.now) events numbered h)

pub returns-in_err-call-clause-err : goal.returns-in_err-call-clause-err
returns-in_err-call-clause-err g c =
    let p = err_from_is_err_and c.from_residual-in_err-call.result c.from_residual-in_err-call.ensures.1 in
    rw (p.1, p.2) (λ r r' w events numbered h. let w' = g.K.Sink.writes c.args.output.now in
    c.in_err-call.ensures.err r r' w w' events numbered h)

pub returns-clause-ok : goal.returns-clause-ok
returns-clause-ok g c = λ r r' w events numbered h. let w' = g.K.Sink.writes c.args.output.now in let run = c.call.new.self in
    let made = c.in_ok-call.ensures.ok r r' w w' events h in
    (made.0, go_on r r' r' w w' (g.K.Sink.writes c.write_full.new.sink) run run.lines _ (events ++ made.0 ∷ []) (unread run.lines r') refl c.in_ok-write_full.ensures.written made.1)

pub returns-in_err-write_full-clause-err : goal.returns-in_err-write_full-clause-err
returns-in_err-write_full-clause-err g c =
    let p = err_from_is_err_and c.from_residual-in_err-write_full.result c.from_residual-in_err-write_full.ensures.1 in
    rw (p.1, p.2) (λ r r' w events numbered h. let w' = g.K.Sink.writes c.args.output.now in let run = c.call.new.self in
    let made = c.in_ok-call.ensures.ok r r' w w' events h in let k = c.in_err-write_full.ensures.written in
    stop_sought r r' r' w w' (g.K.Sink.writes c.write_full.new.sink) run run.lines c.write_full.new.self (events ++ made.0 ∷ []) end.Output (unread run.lines r') (k.0, refl, k.1) made.1)
