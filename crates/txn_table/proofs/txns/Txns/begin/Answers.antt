use Rattle.std.proofs.Common.{arith}
use Rattle.std.proofs.lemmas.Grind.{common_steps}
use Rattle.txn_table.proofs.Standing.{begins}
use Rattle.txn_table.proofs.txns.Txns.begin.Goals as goal

pub invariant_of-self : goal.invariant_of-self
invariant_of-self c = λ i. grind (arith, common_steps, c.self.invariant i)

pub invariant_of-self-in-Occupied : goal.invariant_of-self-in-Occupied
invariant_of-self-in-Occupied c = λ i. grind (arith, common_steps, c.self.invariant i)

pub invariant_of-self-in_err-insert-in-Vacant : goal.invariant_of-self-in_err-insert-in-Vacant
invariant_of-self-in_err-insert-in-Vacant c = λ i. grind (arith, common_steps, c.self.invariant i)

pub invariant_of-self-in-Vacant : goal.invariant_of-self-in-Vacant
invariant_of-self-in-Vacant c =
    begins c.self.inside.undecided.entries c.insert.new.self.entries c.self.inside.endings.entries _ c.get.result c.self.invariant c.args.seat (λ i. grind (arith, common_steps)) (λ i. grind (arith, common_steps))
