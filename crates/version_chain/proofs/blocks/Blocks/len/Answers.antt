use Rattle.std.proofs.Common.{◌≡◌, ◌+◌, ◌-◌, ap, arith, get_or, length, subst, ◌∙◌}
use Rattle.version_chain.specs.declared.block.Block.{Block}
use Rattle.version_chain.specs.Blocks.{all_in}
use Rattle.version_chain.proofs.InBlocks.{last_ends}
use Rattle.version_chain.proofs.blocks.Blocks.len.Goals as goal

ends : (c : goal.After-len) → c.in-Some.last.now.start + c.len.result ≡ length (all_in c.self.inside.blocks.items)
ends c =
    let bs = c.self.inside.blocks.items in
    let block : Block = c.in-Some.last.now in
    let is : block ≡ get_or bs (length bs - 1) block = subst (λ cs. block ≡ get_or cs (length cs - 1) block) c.deref.ensures.value c.in-Some.ensures.item.1 in
    let end = last_ends bs block c.self.invariant.some c.self.invariant.numbered in
    let start = ap (λ (b : Block). b.start) is in
    let long = ap (λ (b : Block). length b.versions.items) is in
    omega (arith, c.len.ensures, block.versions.ok.0)

pub overflow_add-result : goal.overflow_add-result
overflow_add-result c = let all = ends c in omega (arith, c.self.invariant.few)

pub returns-in-Some : goal.returns-in-Some
returns-in-Some c = ends c ∙ ap length c.self.view_is
