use Rattle.std.proofs.Common.{arith}
use Rattle.replica.proofs.Common.{common_steps}
use Rattle.spans.proofs.Ascending.{rising_keys}
use Rattle.replica.proofs.Keys.{copied_more, copied_all}
use Rattle.replica.proofs.index.copies.Goals as goal

pub loop-key-preserved : goal.loop-key-preserved
loop-key-preserved c = grind (arith, common_steps, copied_more)

pub returns-clause-all : goal.returns-clause-all
returns-clause-all c = copied_all c.loop-key.copies.items c.loop-key.key-iterator c.args.keys.now.keys c.loop-key.invariant c.in-None.ensures.steps.0

pub returns-clause-rising : goal.returns-clause-rising
returns-clause-rising c = rw (copied_all c.loop-key.copies.items c.loop-key.key-iterator c.args.keys.now.keys c.loop-key.invariant c.in-None.ensures.steps.0) (rising_keys c.args.keys.now.keys c.iter-key-items.ensures.ordered)
