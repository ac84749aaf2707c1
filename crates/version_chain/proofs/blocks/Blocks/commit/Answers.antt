use Rattle.std.proofs.Common.{refl, sym, ap, ◌∙◌, set}
use Rattle.version_chain.proofs.Common.{get_or_default}
use Rattle.version_chain.specs.declared.chain.Version.{Version}
use Rattle.version_chain.specs.Versions.{as_committed}
use Rattle.version_chain.proofs.Placing.{read_at, set_at, set_keeps}
use Rattle.version_chain.proofs.blocks.Blocks.commit.Goals as goal

pub invariant_of-self : goal.invariant_of-self
invariant_of-self c = set_keeps c.self.inside.blocks.items c.deref.result.now c.args.self.now c.args.place c.block_of-k.result c.index_mut-block.result.now c.self.invariant c.deref.ensures.value c.self.view_is c.block_of-k.ensures c.index_mut-block.ensures.value _ (as_committed c.index_mut.result.now) c.requires refl refl

pub returns : goal.returns
returns c = λ d. let v : Version = c.index_mut.result.now in
    set_at c.self.inside.blocks.items c.deref.result.now c.args.self.now c.args.place c.block_of-k.result c.index_mut-block.result.now c.self.invariant c.deref.ensures.value c.self.view_is c.block_of-k.ensures c.index_mut-block.ensures.value _ (as_committed v) c.requires refl
    ∙ ap (λ v. set c.args.self.now c.args.place (as_committed v)) (c.index_mut.ensures.value ∙ sym (read_at c.self.inside.blocks.items c.deref.result.now c.args.self.now c.args.place c.block_of-k.result c.index_mut-block.result.now c.self.invariant c.deref.ensures.value c.self.view_is c.block_of-k.ensures c.index_mut-block.ensures.value v c.requires) ∙ get_or_default c.args.self.now c.args.place v d c.requires)
