use Rattle.mesh_topology.proofs.FirstCornerLemmas.{keys_step}
use Rattle.mesh_topology.proofs.tables.set_keys.Goals as goal

pub loop-id-preserved : goal.loop-id-preserved
loop-id-preserved c =
    keys_step c.args.cells.now c.args.first c.args.ids.now c.loop-id.id-index c.triples_of_four.result c.loop-id.keys.items c.add_keys.new.keys.items c.loop-id-test.true c.triples_of_four.ensures
    c.loop-id.invariant c.in_ok-add_keys.ensures
