use Rattle.mesh_topology.specs.Internal.Incidence.{AreNeighbourSets}
use Rattle.mesh_topology.proofs.incidence.neighbour_lists.Given as goal

abbrev pub invariant-loop-id : goal.invariant-loop-id
invariant-loop-id l = AreNeighbourSets l.through.lists l.back l.id l.sets
