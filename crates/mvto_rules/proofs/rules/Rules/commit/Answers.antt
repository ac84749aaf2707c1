use Rattle.std.proofs.Common.{rules}
use Rattle.mvto_rules.specs.Holding.{holding}
use Rattle.mvto_rules.proofs.Replies.{commit_done, commit_refused}
use Rattle.mvto_rules.proofs.rules.Rules.commit.Goals as goal

pub returns-in-Err : goal.returns-in-Err
returns-in-Err c = record { step = λ k. commit_refused (holding k c.args.self.now) c.args.seat c.args.ts c.in-Err.refusal c.in-Err.ensures.err }

pub returns-in-Ok : goal.returns-in-Ok
returns-in-Ok c = record {
  step = λ k. commit_done (holding k c.args.self.now) _ c.args.seat c.args.ts c.in-Ok.ts c.commit-keys.result
      c.in-Ok.ensures.ok c.in-Ok.ensures.none (search rules) (search rules);
}
