use Rattle.mesh_topology.proofs.NeighbourLemmas.{others_step}
use Rattle.mesh_topology.proofs.incidence.set_neighbours.Goals as goal

pub loop-by-preserved : goal.loop-by-preserved
loop-by-preserved c =
    others_step c.args.id c.args.back.now c.args.through.now c.loop-by.by-index c.loop-by.others.items c.add_others.new.others.items c.loop-by-test.true c.loop-by.invariant c.in_ok-add_others.ensures
