use Rattle.mesh_topology.proofs.FirstCornerLemmas.{above_step}
use Rattle.mesh_topology.proofs.tables.set_corners_above.Goals as goal

pub loop-id-preserved : goal.loop-id-preserved
loop-id-preserved c =
    above_step c.args.cells.now c.args.low c.args.ids.now c.loop-id.id-index c.loop-id.above.items c.add_above.new.above.items c.loop-id-test.true c.loop-id.invariant c.in_ok-add_above.ensures
