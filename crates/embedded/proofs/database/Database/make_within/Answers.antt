use Rattle.std.proofs.Common.{refl, sym, ◌∙◌}
use Rattle.std.proofs.lemmas.Bool.{both_ways, eq-eqb}
use Rattle.embedded.proofs.GettingOn.{gets_on}
use Rattle.embedded.proofs.database.Database.make_within.Goals as goal

pub returns-in_default-clause-made : goal.returns-in_default-clause-made
returns-in_default-clause-made c = λ h stands. (refl, λ spent. both_ways _ (sym (c.is_spent.ensures h stands) ∙ c.if-is_spent.false) (eq-eqb _ _ spent))

pub returns-clause-gets_on : goal.returns-clause-gets_on
returns-clause-gets_on c = λ h stands.
    gets_on h c.args.seat c.args.bounded c.in-Ok.cmd c.args.self.now c.make.new.self c.make.result c.map_err.result (c.in-Ok.ensures h stands) (c.make.ensures.made h stands) c.map_err.ensures.variant
