use Rattle.txn_table.proofs.Times.{rising_through, those_through}
use Rattle.txn_table.proofs.txns.Txns.undecided_through.Goals as goal

pub returns-clause-those : goal.returns-clause-those
returns-clause-those c = rw (c.range.ensures.between tt, ← c.self.view_is) (those_through _ c.args.to c.range.ensures.ordered)

pub returns-clause-rising : goal.returns-clause-rising
returns-clause-rising c = rw (c.range.ensures.between tt) (rising_through c.self.inside.undecided.entries c.args.to c.range.ensures.ordered)
