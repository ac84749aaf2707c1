use Rattle.std.proofs.Common.{arith, refl, sym, ap, subst, length, ◌∙◌}
use Rattle.version_chain.proofs.Common.{any_err, take-set}
use Rattle.version_chain.specs.Blocks.{AreNumbered, all_in}
use Rattle.version_chain.proofs.InBlocks.{numbered_take}
use Rattle.version_chain.proofs.Placing.{insert_at, start_at, stays_at, stays_sound}
use Rattle.version_chain.proofs.blocks.Blocks.insert.Goals as goal

pub invariant_of-self : goal.invariant_of-self
invariant_of-self c = stays_sound c.self.inside.blocks.items c.deref.result.now c.args.self.now c.args.place c.block_of-k.result c.index_mut-block.result.now c.self.invariant c.deref.ensures.value c.self.view_is c.block_of-k.ensures c.index_mut-block.ensures.value _ refl c.in_err-insert.ensures.items

pub returns-in_err-insert-clause-err : goal.returns-in_err-insert-clause-err
returns-in_err-insert-clause-err c = any_err c.from_residual.result (stays_at c.self.inside.blocks.items c.deref.result.now c.args.self.now c.args.place c.block_of-k.result c.index_mut-block.result.now c.self.invariant c.deref.ensures.value c.self.view_is c.block_of-k.ensures c.index_mut-block.ensures.value _ c.in_err-insert.ensures.items)

pub number_from-requires-clause-before : goal.number_from-requires-clause-before
number_from-requires-clause-before c = subst AreNumbered (sym (c.halve_full.ensures.before ∙ take-set c.self.inside.blocks.items c.block_of-k.result _)) (numbered_take c.self.inside.blocks.items c.block_of-k.result c.self.invariant.numbered)

pub number_from-requires-clause-start : goal.number_from-requires-clause-start
number_from-requires-clause-start c = sym (ap (λ cs. length (all_in cs)) (c.halve_full.ensures.before ∙ take-set c.self.inside.blocks.items c.block_of-k.result _) ∙ start_at c.self.inside.blocks.items c.deref.result.now c.args.self.now c.args.place c.block_of-k.result c.index_mut-block.result.now c.self.invariant c.deref.ensures.value c.self.view_is c.block_of-k.ensures c.index_mut-block.ensures.value)

pub number_from-requires-clause-few : goal.number_from-requires-clause-few
number_from-requires-clause-few c = rw c.halve_full.ensures.versions (let all = (insert_at c.self.inside.blocks.items c.deref.result.now c.args.self.now c.args.place c.block_of-k.result c.index_mut-block.result.now c.self.invariant c.deref.ensures.value c.self.view_is c.block_of-k.ensures c.index_mut-block.ensures.value (record c.index_mut-block.result.now { versions = c.insert.new.self }) c.args.version c.requires c.in_ok-insert.ensures.items).1 in
    omega (arith, c.self.invariant.few, ap length c.self.view_is, c.if-len.false, c.len.ensures))

pub invariant_of-self-2 : goal.invariant_of-self-2
invariant_of-self-2 c = record {
  some = omega (arith, c.halve_full.ensures.some, c.number_from.ensures.len);
  numbered = c.number_from.ensures.numbered;
  few = rw (c.number_from.ensures.versions, c.halve_full.ensures.versions) (let all = (insert_at c.self.inside.blocks.items c.deref.result.now c.args.self.now c.args.place c.block_of-k.result c.index_mut-block.result.now c.self.invariant c.deref.ensures.value c.self.view_is c.block_of-k.ensures c.index_mut-block.ensures.value (record c.index_mut-block.result.now { versions = c.insert.new.self }) c.args.version c.requires c.in_ok-insert.ensures.items).1 in
      omega (arith, c.self.invariant.few, ap length c.self.view_is, c.if-len.false, c.len.ensures));
}

pub returns-clause-ok : goal.returns-clause-ok
returns-clause-ok c = c.number_from.ensures.versions ∙ c.halve_full.ensures.versions ∙ (insert_at c.self.inside.blocks.items c.deref.result.now c.args.self.now c.args.place c.block_of-k.result c.index_mut-block.result.now c.self.invariant c.deref.ensures.value c.self.view_is c.block_of-k.ensures c.index_mut-block.ensures.value (record c.index_mut-block.result.now { versions = c.insert.new.self }) c.args.version c.requires c.in_ok-insert.ensures.items).0
