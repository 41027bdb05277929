use Rattle.mesh_topology.specs.Internal.Incidence.{AreEdgeCornerPairsSoFar}
use Rattle.mesh_topology.proofs.cells_of.edge_corner_pairs.Given as goal

abbrev pub invariant-loop-id : goal.invariant-loop-id
invariant-loop-id l = AreEdgeCornerPairsSoFar l.faces l.face_edges l.id l.pairs.items
