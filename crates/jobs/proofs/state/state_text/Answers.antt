use Rattle.std.proofs.Common.{rules}
use Rattle.jobs.proofs.States.{reported_state}
use Rattle.jobs.proofs.state.state_text.Goals as goal

pub returns : goal.returns
returns c = reported_state c.args.detail c.args.text.now c.verdict_by.new.checker c.in_ok-report.report _ (search rules) (search rules) (search rules)
