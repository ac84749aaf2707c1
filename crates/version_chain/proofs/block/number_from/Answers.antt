use Rattle.std.proofs.Common.{◌<◌, ◌+◌, ap, arith, get_or-set_same, length, refl, set, ◌∙◌}
use Rattle.version_chain.specs.declared.block.Block.{Block}
use Rattle.version_chain.proofs.InBlocks.{IsNumberedTo, numbered_fits, numbered_next}
use Rattle.version_chain.proofs.block.number_from.Goals as goal

-- one more block is numbered
next : (c : goal.After-len-start) → IsNumberedTo c.args.blocks.now.items (set c.loop-i.blocks.items c.loop-i.i (record c.index_mut.result.now { start = c.loop-i.start })) (c.loop-i.start + c.len-start.result) (c.loop-i.i + 1)
next c =
    let bs = c.loop-i.blocks.items in
    let block : Block = c.index_mut.result.now in
    let made : Block = record block { start = c.loop-i.start } in
    let within : c.loop-i.i < length bs = omega (arith, c.loop-i-test.true, c.len-i-end.ensures, c.loop-i.invariant.long, c.args.blocks.now.ok.0) in
    let many = c.len-start.ensures ∙ ap (λ (b : Block). b.versions.len) (c.index.ensures ∙ get_or-set_same bs c.loop-i.i made c.index.result.now within) ∙ made.versions.ok.0 in
    numbered_next c.args.blocks.now.items bs c.loop-i.start c.loop-i.i c.len-start.result block made within c.index_mut.ensures.value refl refl many c.loop-i.invariant

pub overflow_add-start : goal.overflow_add-start
overflow_add-start c = let low = numbered_fits _ _ _ _ (next c) in omega (arith, c.requires.few)

pub loop-i-preserved : goal.loop-i-preserved
loop-i-preserved c = next c
