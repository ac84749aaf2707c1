use Rattle.std.proofs.Common.{ap, arith, ◌∙◌, rules, subst, sym}
use Rattle.version_chain.specs.Indexes.{listed_in, AreBetween}
use Rattle.version_chain.proofs.Indexes.{listed_between}
use Rattle.version_chain.proofs.Walking.{are_between, up_to}
use Rattle.version_chain.proofs.index.Index.between.Goals as goal

pub returns-clause-listed : goal.returns-clause-listed
returns-clause-listed c = λ y i above low. ap (λ es. listed_in es y i) (c.range.ensures.between (search rules)) ∙ listed_between c.args.after c.max-through.result c.args.self.now.keys.entries y i above (omega (arith, c.max-through.ensures))

pub returns-clause-rising : goal.returns-clause-rising
returns-clause-rising c = up_to c.args.after c.args.through c.max-through.result c.range.result (λ over. omega (arith, c.max-through.ensures))
    (subst (AreBetween c.args.after c.max-through.result) (sym (c.range.ensures.between (search rules))) (are_between c.args.after c.max-through.result c.args.self.now.keys.entries c.range.ensures.ordered))
