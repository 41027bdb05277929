use Rattle.partitioner.proofs.BlockLemmas.{block_more}
use Rattle.partitioner.proofs.block_list.blocks.Goals as goal

pub loop-cell-preserved : goal.loop-cell-preserved
loop-cell-preserved c =
    block_more c.args.cells c.args.ranks c.loop-cell.cell c.block_of.result c.loop-cell.parts c.push.new.self
    c.loop-cell.invariant c.block_of.ensures.block c.in_ok-push.ensures.ok
