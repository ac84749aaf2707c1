use Rattle.replica.proofs.Keys.{keys_with}
use Rattle.replica.proofs.table.Table.keys_with.Goals as goal

pub returns : goal.returns
returns c = rw (← c.self.view_is) (keys_with (λ keys. keys.items) c.keys_of.result c.self.inside.rows.entries c.self.inside.index c.args.value.now c.self.invariant c.keys_of.ensures.rising c.keys_of.ensures.exact)
