use Rattle.std.proofs.Common.{arith, sym, ap, subst, length, ◌∙◌}
use Rattle.version_chain.proofs.Common.{take-set}
use Rattle.version_chain.specs.Blocks.{AreNumbered, all_in}
use Rattle.version_chain.proofs.InBlocks.{numbered_take}
use Rattle.version_chain.proofs.Placing.{remove_at, start_at}
use Rattle.version_chain.proofs.blocks.Blocks.remove.Goals as goal

pub number_from-requires-clause-before : goal.number_from-requires-clause-before
number_from-requires-clause-before c = subst AreNumbered (sym (c.drop_empty.ensures.before ∙ take-set c.self.inside.blocks.items c.block_of-k.result _)) (numbered_take c.self.inside.blocks.items c.block_of-k.result c.self.invariant.numbered)

pub number_from-requires-clause-start : goal.number_from-requires-clause-start
number_from-requires-clause-start c = sym (ap (λ cs. length (all_in cs)) (c.drop_empty.ensures.before ∙ take-set c.self.inside.blocks.items c.block_of-k.result _) ∙ start_at c.self.inside.blocks.items c.deref.result.now c.args.self.now c.args.place c.block_of-k.result c.index_mut-block.result.now c.self.invariant c.deref.ensures.value c.self.view_is c.block_of-k.ensures c.index_mut-block.ensures.value)

pub number_from-requires-clause-few : goal.number_from-requires-clause-few
number_from-requires-clause-few c = rw c.drop_empty.ensures.versions (remove_at c.self.inside.blocks.items c.deref.result.now c.args.self.now c.args.place c.block_of-k.result c.index_mut-block.result.now c.self.invariant c.deref.ensures.value c.self.view_is c.block_of-k.ensures c.index_mut-block.ensures.value (record c.index_mut-block.result.now { versions = c.remove.new.self }) c.requires c.remove.ensures.items).1

pub invariant_of-self : goal.invariant_of-self
invariant_of-self c = record {
  some = omega (arith, c.drop_empty.ensures.some, c.number_from.ensures.len);
  numbered = c.number_from.ensures.numbered;
  few = rw (c.number_from.ensures.versions, c.drop_empty.ensures.versions) (remove_at c.self.inside.blocks.items c.deref.result.now c.args.self.now c.args.place c.block_of-k.result c.index_mut-block.result.now c.self.invariant c.deref.ensures.value c.self.view_is c.block_of-k.ensures c.index_mut-block.ensures.value (record c.index_mut-block.result.now { versions = c.remove.new.self }) c.requires c.remove.ensures.items).1;
}

pub returns : goal.returns
returns c = c.number_from.ensures.versions ∙ c.drop_empty.ensures.versions ∙ (remove_at c.self.inside.blocks.items c.deref.result.now c.args.self.now c.args.place c.block_of-k.result c.index_mut-block.result.now c.self.invariant c.deref.ensures.value c.self.view_is c.block_of-k.ensures c.index_mut-block.ensures.value (record c.index_mut-block.result.now { versions = c.remove.new.self }) c.requires c.remove.ensures.items).0
