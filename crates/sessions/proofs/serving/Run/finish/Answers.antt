use Rattle.std.proofs.Common.{◌∙◌}
use Rattle.sessions.proofs.Ends.{served_cut, served_whole, served_part}
use Rattle.sessions.proofs.serving.Run.finish.Goals as goal

pub returns-in-Output : goal.returns-in-Output
returns-in-Output g c = λ r r' w h. served_cut r r' w (g.K.Sink.writes c.args.output.now) c.args.self c.args.end h c.finish.ensures.whole c.finish.ensures.spent c.in-Output.is

pub returns-in-Ok : goal.returns-in-Ok
returns-in-Ok g c = λ r r' w h. let k = c.in-Ok.ensures.written in
    served_whole r r' w (g.K.Sink.writes c.args.output.now) c.args.self c.args.end h c.finish.ensures.whole c.finish.ensures.spent c.deref.result.now (g.K.Sink.writes c.write_last.new.sink) c.in_default.not-Output (c.deref.ensures.value ∙ c.of-last.ensures) k.0 k.1

pub returns : goal.returns
returns g c = rw c.from.ensures (λ r r' w h. let k = c.in-Err.ensures.written in
    served_part r r' w (g.K.Sink.writes c.args.output.now) c.args.self c.args.end h c.finish.ensures.whole c.finish.ensures.spent c.deref.result.now (g.K.Sink.writes c.write_last.new.sink) c.in_default.not-Output (c.deref.ensures.value ∙ c.of-last.ensures) k.0 k.1)
