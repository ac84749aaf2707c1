use Rattle.std.proofs.Common.{subst, sym}
use Rattle.version_chain.specs.Indexes.{IsFirstBetween}
use Rattle.version_chain.proofs.Walking.{is_first_between}
use Rattle.version_chain.proofs.index.Index.first_between.Goals as goal

pub returns : goal.returns
returns c = subst (IsFirstBetween c.args.self.now c.args.after c.args.through) (sym c.ts.view_is)
    (is_first_between c.args.self.now c.args.after c.args.through c.in_ok-ts.ts.now c.in_ok-ts.field-0-1.now c.between.result c.next.new.self c.between.ensures.listed c.between.ensures.rising c.in_ok-ts.ensures.steps)
