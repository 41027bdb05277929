use Rattle.mesh_topology.specs.Internal.Incidence.{transposed, AreNeighbourSets}
use Rattle.mesh_topology.proofs.incidence.sorted_partners.Given as goal

abbrev pub invariant-loop-id : goal.invariant-loop-id
invariant-loop-id l = AreNeighbourSets (transposed l.lists l.count) l.lists l.id l.sets
