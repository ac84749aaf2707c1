use Rattle.std.proofs.Common.{◌<◌, arith, length, not, rules}
use Rattle.std.proofs.lemmas.Fn.{filter_same}
use Rattle.version_chain.specs.declared.block.Block.{Block}
use Rattle.version_chain.specs.declared.chain.Version.{Version}
use Rattle.version_chain.specs.Dead.{is_dead_version}
use Rattle.version_chain.proofs.InBlocks.{thinned_end, thinned_next}
use Rattle.version_chain.proofs.block.thin.Goals as goal

pub loop-i-preserved : goal.loop-i-preserved
loop-i-preserved c =
    let lives = λ (v : Version). not (is_dead_version c.args.horizon c.args.top v) in
    let block : Block = c.index_mut.result.now in
    let within : c.loop-i.i < length c.loop-i.blocks.items = omega (arith, c.loop-i.invariant.long, c.requires) in
    thinned_next lives c.args.blocks.now.items c.loop-i.blocks.items c.loop-i.i block (record block { versions = c.retain.new.self }) within c.index_mut.ensures.value
    (filter_same _ lives _ (λ x b f' k. search rules) block.versions.items c.retain.new.self.items c.retain.ensures.filtered) c.loop-i.invariant

pub returns-clause-versions : goal.returns-clause-versions
returns-clause-versions c = thinned_end _ c.args.blocks.now.items c.loop-i.blocks.items c.loop-i.i c.args.end (omega arith) c.loop-i.invariant
