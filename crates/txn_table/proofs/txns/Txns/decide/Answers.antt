use Rattle.std.proofs.Common.{arith, refl}
use Rattle.std.proofs.lemmas.Grind.{common_steps}
use Rattle.txn_table.proofs.Standing.{ends}
use Rattle.txn_table.proofs.txns.Txns.decide.Goals as goal

pub invariant_of-self : goal.invariant_of-self
invariant_of-self c =
    ends c.self.inside.undecided.entries c.remove.new.self.entries c.self.inside.endings.entries c.self.inside.endings.entries c.get.result c.self.invariant (λ i. grind (arith, common_steps)) (λ i off. refl)

pub invariant_of-self-2 : goal.invariant_of-self-2
invariant_of-self-2 c = let after = c.match-get_mut.self-inside in
    ends c.self.inside.undecided.entries after.undecided.entries c.self.inside.endings.entries after.endings.entries c.get.result c.self.invariant (λ i. grind (arith, common_steps)) (λ i off. grind (arith, common_steps))
