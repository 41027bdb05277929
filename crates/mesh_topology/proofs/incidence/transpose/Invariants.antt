use Rattle.std.proofs.Common.{◌≡◌}
use Rattle.mesh_topology.specs.Internal.Incidence.{IsTransposedSoFar}
use Rattle.mesh_topology.proofs.incidence.transpose.Given as goal

abbrev pub invariant-loop-id : goal.invariant-loop-id
invariant-loop-id g l = IsTransposedSoFar l.rows l.count l.id l.lists.lists × (l.lists.capacities ≡ l.degrees.items)
