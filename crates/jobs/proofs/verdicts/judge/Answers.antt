use Rattle.std.proofs.Common.{◌≡◌, MatchResult, subst, sym}
use Rattle.script.specs.Transcripts.{Fails, outcome, transcript_at}
use Rattle.jobs.specs.Verdicts.{IsJudged}
use Rattle.jobs.proofs.verdicts.judge.Goals as goal

pub returns-in-Ok : goal.returns-in-Ok
returns-in-Ok c =
    let read = subst (λ format. transcript_at format c.args.text.now ≡ outcome c.in-Ok.events) c.of_transcript.ensures c.in-Ok.ensures.exact in
    subst (λ r. MatchResult c.judge_all.result (IsJudged r c.judge_all.new.checker) (λ e. Fails e r)) (sym read) c.judge_all.ensures
