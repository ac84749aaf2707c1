use Rattle.std.proofs.Common.{◌<◌, ◌-◌, rules}
use Rattle.std.specs.Prelude.{nat_le}
use Rattle.std.proofs.lemmas.List.Sorted.{IsPartitionPoint-from_clause}
use Rattle.version_chain.specs.declared.block.Block.{Block}
use Rattle.version_chain.specs.Blocks.{IsBlockOf}
use Rattle.version_chain.proofs.InBlocks.{is_block, starts_rise}
use Rattle.version_chain.proofs.block.block_of.Goals as goal

found : (c : goal.After-partition_point) → (0 < c.partition_point.result) × IsBlockOf c.args.blocks.now c.args.place (c.partition_point.result - 1)
found c = is_block c.args.blocks.now c.args.place c.partition_point.result c.requires.some c.partition_point.ensures.bound c.requires.numbered c.requires.place
    (IsPartitionPoint-from_clause (λ (b : Block). nat_le b.start c.args.place) c.args.blocks.now c.partition_point.result c.partition_point.ensures.partitioned (starts_rise c.args.blocks.now c.args.place c.requires.numbered) (λ a r f' k. search rules))

pub overflow_sub-result : goal.overflow_sub-result
overflow_sub-result c = (found c).0

pub returns : goal.returns
returns c = (found c).1
