use Rattle.std.proofs.Common.{refl}
use Rattle.version_chain.proofs.Placing.{set_at, set_keeps}
use Rattle.version_chain.proofs.blocks.Blocks.set.Goals as goal

pub invariant_of-self : goal.invariant_of-self
invariant_of-self c = set_keeps c.self.inside.blocks.items c.deref.result.now c.args.self.now c.args.place c.block_of-k.result c.index_mut-block.result.now c.self.invariant c.deref.ensures.value c.self.view_is c.block_of-k.ensures c.index_mut-block.ensures.value _ c.args.version c.requires refl refl

pub returns : goal.returns
returns c = set_at c.self.inside.blocks.items c.deref.result.now c.args.self.now c.args.place c.block_of-k.result c.index_mut-block.result.now c.self.invariant c.deref.ensures.value c.self.view_is c.block_of-k.ensures c.index_mut-block.ensures.value _ c.args.version c.requires refl
