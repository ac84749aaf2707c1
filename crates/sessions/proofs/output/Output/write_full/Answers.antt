use Rattle.std.proofs.Common.{arith}
use Rattle.sessions.specs.Devices.{pending_of}
use Rattle.sessions.proofs.Transcripts.{block_written}
use Rattle.sessions.proofs.output.Output.write_full.Goals as goal

pub returns-clause-blocks : goal.returns-clause-blocks
returns-clause-blocks g c = let K = g.K.Sink in let h = c.write_out.ensures in
    block_written (K.writes c.args.sink.now) (K.writes c.write_out.new.sink) (pending_of c.args.self.now) (pending_of c.write_out.new.self) c.write_out.result (omega arith) h.written h.all
