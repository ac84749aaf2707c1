use Rattle.std.proofs.Common.{length, ◌-◌, ◌≡◌, ◌≤◌, [], take}
use Rattle.version_chain.specs.Blocks.{all_in}
use Rattle.version_chain.proofs.block.empty_ahead.Given as goal

abbrev pub invariant-loop-empty : goal.invariant-loop-empty
invariant-loop-empty l = (l.empty ≤ length l.blocks) × (all_in (take l.empty l.blocks) ≡ [])

abbrev pub decreases-loop-empty : goal.decreases-loop-empty
decreases-loop-empty l = length l.blocks - l.empty
