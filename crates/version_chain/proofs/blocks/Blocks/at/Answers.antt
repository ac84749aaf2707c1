use Rattle.std.proofs.Common.{sym, ◌∙◌}
use Rattle.version_chain.proofs.Placing.{read_at}
use Rattle.version_chain.proofs.blocks.Blocks.at.Goals as goal

pub returns : goal.returns
returns c = c.index.ensures ∙ sym (read_at c.self.inside.blocks.items c.deref.result.now c.args.self.now c.args.place c.block_of.result c.index-block.result.now c.self.invariant c.deref.ensures.value c.self.view_is c.block_of.ensures c.index-block.ensures c.index.result.now c.requires)
