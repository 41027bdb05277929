use Rattle.std.proofs.Common.{◌∷◌, ◌++◌, [], ap, ◌∙◌}
use Rattle.mesh_topology.proofs.NeighbourLemmas.{neighbours_step}
use Rattle.mesh_topology.proofs.incidence.neighbour_lists.Goals as goal

pub loop-id-preserved : goal.loop-id-preserved
loop-id-preserved c =
    let e = c.in_ok-push.ensures.ok ∙ ap (λ list. c.loop-id.sets ++ list ∷ []) c.as_slice.ensures.value in
    neighbours_step c.args.through.now.lists c.args.back.now c.loop-id.id c.loop-id.sets c.of.result.now c.set_neighbours.new.others.items c.push.new.self c.loop-id.invariant
    c.of.ensures c.in_ok-set_neighbours.ensures e
