use Rattle.std.proofs.Common.{◌≡◌}
use Rattle.partitioner.proofs.BlockLemmas.{blocks_below}
use Rattle.partitioner.proofs.block_list.blocks.Given as goal

abbrev pub invariant-loop-cell : goal.invariant-loop-cell
invariant-loop-cell l = l.parts ≡ blocks_below l.cells l.ranks l.cell
