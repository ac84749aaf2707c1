use Rattle.std.proofs.Common.{◌≡◌, [], ap, sym, ◌∙◌}
use Rattle.version_chain.proofs.Common.{eqb-true, nil_from_length}
use Rattle.version_chain.specs.declared.block.Block.{Block}
use Rattle.version_chain.specs.Blocks.{all_in}
use Rattle.version_chain.proofs.InBlocks.{emptied}
use Rattle.version_chain.proofs.block.drop_empty.Goals as goal

pub returns-then-len-gt1-clause-versions : goal.returns-then-len-gt1-clause-versions
returns-then-len-gt1-clause-versions c =
    let block : Block = c.index.result.now in
    let none : block.versions.items ≡ [] = nil_from_length block.versions.items (sym block.versions.ok.0 ∙ eqb-true _ _ (sym c.is_empty.ensures ∙ c.if-is_empty.true)) in
    ap all_in c.remove.ensures.items ∙ emptied c.args.blocks.now.items c.args.k block c.requires c.index.ensures none
