use Rattle.script.proofs.Arrows.{one_on}
use Rattle.script.proofs.headings.skip.Goals as goal

pub loop-preserved : goal.loop-preserved
loop-preserved c = one_on c.take_word.result c.loop.counter c.args.words.now c.loop.words c.take_word.new.self c.take_word.ensures c.loop.invariant
