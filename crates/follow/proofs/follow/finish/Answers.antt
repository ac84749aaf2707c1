use Rattle.std.proofs.Common.{refl, inl}
use Rattle.sessions.specs.Devices.{pending_of}
use Rattle.follow.specs.declared.ending.FollowEnd.TheVariants as ends
use Rattle.follow.proofs.Ends.{followed_cut, followed_told, followed_unlined, could_written}
use Rattle.follow.proofs.follow.finish.Goals as goal

pub returns-in-Output : goal.returns-in-Output
returns-in-Output g c = let K = g.K.Sink in record {
  followed = λ o r r' w s. followed_cut o r r' w (K.writes c.args.output.now) (pending_of c.args.kept) c.args.end s c.in-Output.is;
  begun = λ o r could. inl refl;
}

pub returns-in-Ok : goal.returns-in-Ok
returns-in-Ok g c = let K = g.K.Sink in record {
  followed = λ o r r' w s.
      followed_told o r r' w (K.writes c.args.output.now) (pending_of c.args.kept) c.args.end s (pending_of c.keep_last.new.kept) (K.writes c.written.new.output) c.written.result c.in_default.not-Output c.in-Ok.ensures.ok c.written.ensures;
  begun = λ o r could. could_written o r (K.writes c.args.output.now) c.args.end c.written.result (K.writes c.args.output.now) (K.writes c.written.new.output) (pending_of c.keep_last.new.kept) c.written.ensures could;
}

pub returns-in-Err : goal.returns-in-Err
returns-in-Err g c = let K = g.K.Sink in record {
  followed = λ o r r' w s.
      followed_unlined o r r' w (K.writes c.args.output.now) (pending_of c.args.kept) c.args.end s (pending_of c.keep_last.new.kept) (K.writes c.written-in-Err.new.output) c.written-in-Err.result c.in-Err.ensures.line c.in-Err.ensures.err c.written-in-Err.ensures;
  begun = λ o r could. could_written o r (K.writes c.args.output.now) ends.Memory c.written-in-Err.result (K.writes c.args.output.now) (K.writes c.written-in-Err.new.output) (pending_of c.keep_last.new.kept) c.written-in-Err.ensures (inl refl);
}
