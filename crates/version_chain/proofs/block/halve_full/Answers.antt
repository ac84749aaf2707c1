use Rattle.std.proofs.Common.{◌≡◌, ◌+◌, ◌/◌, suc, ap, ap₂, arith, insert, set, take-append-drop, ◌∙◌, ◌++◌}
use Rattle.version_chain.specs.declared.block.Block.{Block}
use Rattle.version_chain.specs.Blocks.{all_in}
use Rattle.version_chain.proofs.InBlocks.{halved}
use Rattle.version_chain.proofs.block.halve_full.Goals as goal

pub returns-clause-versions : goal.returns-clause-versions
returns-clause-versions c =
    let k = c.args.k in
    let bs = c.reserve.new.self.items in
    let block : Block = c.index_mut.result.now in
    let lower : Block = record block { versions = c.shrink_to_fit.new.self } in
    let upper : Block = record { start = 0; versions = c.in_ok-versions.versions } in
    let next : k + 1 ≡ suc k = omega arith in
    let both : lower.versions.items ++ upper.versions.items ≡ block.versions.items = ap₂ (λ us vs. us ++ vs) (c.shrink_to_fit.ensures.items ∙ c.in_ok-versions.ensures.items) c.in_ok-versions.ensures.tail ∙ take-append-drop (c.len-2.result / 2) block.versions.items in
    ap all_in c.in-Ok.ensures.items
    ∙ ap (λ m. all_in (insert (set bs k lower) m upper)) next
    ∙ halved bs k block lower upper (omega arith) c.index_mut.ensures.value both
    ∙ ap all_in c.in_ok-reserve.ensures.items
