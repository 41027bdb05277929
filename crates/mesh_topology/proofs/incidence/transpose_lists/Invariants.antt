use Rattle.mesh_topology.specs.Internal.Incidence.{IsTransposedSoFar}
use Rattle.mesh_topology.proofs.incidence.transpose_lists.Given as goal

abbrev pub invariant-loop-id : goal.invariant-loop-id
invariant-loop-id g l = IsTransposedSoFar l.lists l.count l.id l.rows
