use Rattle.std.proofs.Common.{rules}
use Rattle.script.specs.Transcripts.{outcome}
use Rattle.jobs.proofs.Judging.{judging_ends, judging_goes_on}
use Rattle.jobs.proofs.verdicts.judge_all.Goals as goal

pub loop-event-preserved : goal.loop-event-preserved
loop-event-preserved c =
    judging_goes_on (outcome c.args.events.now) c.loop-event.events c.next.new.self c.loop-event.checker c.take.new.self c.loop-event.taken c.in_ok-event.event (search rules) (search rules) c.loop-event.invariant

pub returns : goal.returns
returns c = judging_ends (outcome c.args.events.now) c.loop-event.events c.loop-event.checker c.loop-event.taken (search rules) c.loop-event.invariant
