use Rattle.std.proofs.Common.{rules, arith, refl}
use Rattle.replica.proofs.Common.{common_steps}
use Rattle.replica.proofs.Testing.{rising_more, rising_all, rising_at}
use Rattle.replica.proofs.seed.rise.Goals as goal

pub loop-at-preserved : goal.loop-at-preserved
loop-at-preserved c =
    rising_more c.args.rows.now c.loop-at.at c.index-rows-at.result c.index-rows-at-in-loop-at.result c.loop-at.invariant (omega arith) (omega arith) c.index-rows-at.is c.index-rows-at-in-loop-at.is (search rules)

pub returns-then-ne : goal.returns-then-ne
returns-then-ne c =
    (λ e. cc, λ rising. let less = rising_at c.args.rows.now c.loop-at.at c.index-rows-at.result c.index-rows-at-in-loop-at.result rising (omega arith) (omega arith) c.index-rows-at.is c.index-rows-at-in-loop-at.is in grind (arith, common_steps))

pub returns : goal.returns
returns c = (λ _. rising_all c.args.rows.now (λ k d low. c.loop-at.invariant k d (omega arith)), λ _. refl)
