use Rattle.std.proofs.Common.{Ok, length}
use Rattle.sessions.specs.Devices.{HasWritten}
use Rattle.sessions.proofs.whole.write_whole.Given as goal

abbrev pub invariant-loop-rest : goal.invariant-loop-rest
invariant-loop-rest g l = HasWritten (g.K.Sink.writes l.initial.sink) (g.K.Sink.writes l.sink) l.bytes l.rest (Ok tt)

abbrev pub decreases-loop-rest : goal.decreases-loop-rest
decreases-loop-rest g l = length l.rest
