use Rattle.version_chain.proofs.InBlocks.{IsNumberedTo}
use Rattle.version_chain.proofs.block.number_from.Given as goal

abbrev pub invariant-loop-i : goal.invariant-loop-i
invariant-loop-i l = IsNumberedTo l.fn.blocks.items l.blocks.items l.start l.i
