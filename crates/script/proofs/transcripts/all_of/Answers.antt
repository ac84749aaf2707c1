use Rattle.std.proofs.Common.{refl}
use Rattle.script.specs.Transcripts.{outcome}
use Rattle.script.proofs.TakeLines.{reads_end}
use Rattle.script.proofs.transcripts.all_of.Goals as goal

pub returns-clause-exact : goal.returns-clause-exact
returns-clause-exact c = reads_end c.loop-event.events.items c.loop-event.left (outcome c.args.left) c.in_default.ensures.0 (rw (c.loop-event.invariant.0, c.loop-event.invariant.1) refl)
