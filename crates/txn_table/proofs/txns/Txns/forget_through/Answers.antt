use Rattle.std.proofs.Common.{arith}
use Rattle.std.proofs.lemmas.Grind.{common_steps}
use Rattle.txn_table.proofs.txns.Txns.forget_through.Goals as goal

pub invariant_of-self : goal.invariant_of-self
invariant_of-self c = λ i. grind (arith, common_steps, c.self.invariant i, c.drop_through.ensures i, c.drop_through-2.ensures i)
