use Rattle.std.proofs.Common.{arith, subst, sym, ap, ◌≡◌, ◌∙◌}
use Rattle.sessions.proofs.Ends.{served_refused}
use Rattle.sessions.specs.Going.{IsStopped, end_of}
use Rattle.sessions.specs.Runs.{IsServed}
use Rattle.sessions.specs.declared.serving.Terms.{Terms}
use Rattle.sessions.specs.declared.ending.ServeEnd.{ServeEnd}
use Rattle.sessions.proofs.serving.serve.Goals.{in-Ok-calls, in-Err-calls}
use Rattle.sessions.proofs.serving.serve.Goals as goal

pub returns-in-Err : goal.returns-in-Err
returns-in-Err g c = served_refused c.args.format c.args.config (g.S.Source.reads c.args.input.now) (g.K.Sink.writes c.args.output.now) c.in-Err.end (omega arith) c.in-Err.ensures.err

pub returns-after-calls : goal.returns-after-calls
returns-after-calls g c =
    let r = g.S.Source.reads c.args.input.now in
    let r' = g.S.Source.reads c.calls.new.input in
    let w = g.K.Sink.writes c.args.output.now in
    let ended : end_of c.calls.result ≡ c.match-calls.end = elim c.match-calls.branch [
      | in-Ok-calls way ↦ ap end_of way.in-Ok-calls.is ∙ sym way.end-is
      | in-Err-calls way ↦ ap end_of way.in-Err-calls.is ∙ sym way.end-is
    ] in
    let stopped = subst (λ (e : ServeEnd). IsStopped r r' w (g.K.Sink.writes c.calls.new.output) c.calls.new.self e) ended c.calls.ensures.stopped in
    subst (λ (t : Terms). IsServed t.format t.config r r' w (g.K.Sink.writes c.finish.new.output) c.finish.result) (c.calls.ensures.terms ∙ c.in-Ok.ensures.ok.1) (c.finish.ensures r r' w stopped)
