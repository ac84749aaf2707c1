use Rattle.std.proofs.Common.{ap, subst, sym, ◌∙◌}
use Rattle.key_set.specs.Sets.{AreInOrder, keys_in}
use Rattle.key_set.proofs.Sets.{next_in_order, next_least}
use Rattle.key_set.proofs.set.put_next.Goals as goal

pub returns-clause-keys : goal.returns-clause-keys
returns-clause-keys c = ap (keys_in c.pop_first.result) c.free_empty.ensures ∙ sym (next_least c.pop_first.result c.args.others.now.keys c.pop_first.new.self.keys c.pop_first.ensures.removal c.pop_first.ensures.unchanged)

pub returns-clause-order : goal.returns-clause-order
returns-clause-order c = subst (AreInOrder c.pop_first.result) (sym c.free_empty.ensures)
    (next_in_order c.pop_first.result c.args.others.now.keys c.pop_first.new.self.keys c.requires c.pop_first.ensures.variant.1 c.pop_first.ensures.removal c.pop_first.ensures.unchanged)
