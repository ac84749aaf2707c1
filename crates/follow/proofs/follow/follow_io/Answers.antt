use Rattle.std.proofs.Common.{subst, sym}
use Rattle.sessions.specs.Devices.{pending_of}
use Rattle.follow.specs.Ends.{CouldBegin}
use Rattle.follow.specs.Steps.{IsStopped}
use Rattle.follow.proofs.Ends.{followed_memory, stopped_unbegun, could_unbegun}
use Rattle.follow.proofs.follow.follow_io.Goals as goal

pub returns-in-Err-clause-followed : goal.returns-in-Err-clause-followed
returns-in-Err-clause-followed g c = followed_memory c.args.options (g.S.Source.reads c.args.input.now) (g.K.Sink.writes c.args.output.now)

pub returns-in-Err-begin-clause-followed : goal.returns-in-Err-begin-clause-followed
returns-in-Err-begin-clause-followed g c = let o = c.args.options in let r = g.S.Source.reads c.args.input.now in let w = g.K.Sink.writes c.args.output.now in
    c.finish-in-Err-begin.ensures.followed o r r w
    (subst (IsStopped o r r w w (pending_of c.in-Ok.kept)) (sym c.end_by.ensures) (stopped_unbegun o r w c.in-Err-begin.error (pending_of c.in-Ok.kept) c.in-Ok.ensures c.in-Err-begin.ensures.refused))

pub returns-in-Err-begin-clause-begun : goal.returns-in-Err-begin-clause-begun
returns-in-Err-begin-clause-begun g c = let o = c.args.options in let r = g.S.Source.reads c.args.input.now in
    c.finish-in-Err-begin.ensures.begun o r (subst (CouldBegin o r r) (sym c.end_by.ensures) (could_unbegun o r (g.K.Sink.writes c.args.output.now) c.in-Err-begin.error))
