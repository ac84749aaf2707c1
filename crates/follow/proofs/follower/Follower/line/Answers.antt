use Rattle.sessions.specs.Devices.{pending_of}
use Rattle.follow.proofs.Steps.{stop_line, go_written, stop_written}
use Rattle.follow.proofs.follower.Follower.line.Goals as goal

pub returns-in-Err-clause-err : goal.returns-in-Err-clause-err
returns-in-Err-clause-err g c = let K = g.K.Sink in λ o r r' w lines ms numbered u.
    stop_line o r r' w (K.writes c.args.output.now) c.args.self.now (pending_of c.args.kept.now) (pending_of c.take_line.new.kept) c.args.number lines ms numbered u c.in-Err.error c.end_by.result c.in-Err.ensures.err c.in-Err.ensures.same c.end_by.ensures

pub returns-in-Ok-write_full-clause-ok : goal.returns-in-Ok-write_full-clause-ok
returns-in-Ok-write_full-clause-ok g c = let K = g.K.Sink in let h = c.in-Ok-write_full.ensures.written in λ o r r' w lines ms numbered u.
    go_written o r r' w (K.writes c.args.output.now) c.args.self.now (pending_of c.args.kept.now) (pending_of c.take_line.new.kept) c.args.number lines ms numbered u c.take_line.new.self (K.writes c.write_full.new.sink) (pending_of c.write_full.new.self) c.in-Ok.ensures.ok h.0 h.1

pub returns-in-Err-write_full-clause-err : goal.returns-in-Err-write_full-clause-err
returns-in-Err-write_full-clause-err g c = let K = g.K.Sink in let h = c.in-Err-write_full.ensures.written in λ o r r' w lines ms numbered u.
    stop_written o r r' w (K.writes c.args.output.now) c.args.self.now (pending_of c.args.kept.now) (pending_of c.take_line.new.kept) c.args.number lines ms numbered u c.take_line.new.self (K.writes c.write_full.new.sink) (pending_of c.write_full.new.self) c.in-Ok.ensures.ok h.0 h.1
