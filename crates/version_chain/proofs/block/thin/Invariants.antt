use Rattle.std.proofs.Common.{not}
use Rattle.version_chain.specs.declared.chain.Version.{Version}
use Rattle.version_chain.specs.Dead.{is_dead_version}
use Rattle.version_chain.proofs.InBlocks.{IsThinnedTo}
use Rattle.version_chain.proofs.block.thin.Given as goal

abbrev pub invariant-loop-i : goal.invariant-loop-i
invariant-loop-i l = IsThinnedTo (λ (v : Version). not (is_dead_version l.horizon l.top v)) l.fn.blocks.items l.blocks.items l.i
