use Rattle.std.proofs.Common.{◌≡◌, [], ap, arith, get_or, sym, ◌∙◌}
use Rattle.version_chain.proofs.Common.{eqb-true, nil_from_length}
use Rattle.version_chain.proofs.InBlocks.{empty_more}
use Rattle.version_chain.proofs.block.empty_ahead.Goals as goal

pub loop-empty-preserved : goal.loop-empty-preserved
loop-empty-preserved c =
    let n = c.loop-empty.empty in
    let block = c.index-blocks-empty.result in
    let read = get_or c.args.blocks.now n block in
    let none : read.versions.items ≡ [] = nil_from_length read.versions.items (sym read.versions.ok.0 ∙ eqb-true _ _ (sym c.is_empty.ensures ∙ c.if-is_empty.true)) in
    (omega arith, empty_more c.args.blocks.now n block (omega arith) c.index-blocks-empty.is (ap (λ b. b.versions.items) c.index-blocks-empty.is ∙ none) c.loop-empty.invariant.1)
