use Rattle.std.proofs.Common.{length}
use Rattle.script.specs.Transcripts.{outcome}
use Rattle.jobs.proofs.Judging.{IsJudging}
use Rattle.jobs.proofs.verdicts.judge_all.Given as goal

abbrev pub invariant-loop-event : goal.invariant-loop-event
invariant-loop-event l = IsJudging (outcome l.initial.events) l.events l.checker l.taken

abbrev pub decreases-loop-event : goal.decreases-loop-event
decreases-loop-event l = length l.events.events
