use Rattle.mesh_topology.specs.Internal.Incidence.{AreOthersSoFar}
use Rattle.mesh_topology.proofs.incidence.partners.Given as goal

abbrev pub invariant-loop-id : goal.invariant-loop-id
invariant-loop-id g l = AreOthersSoFar l.lists l.count l.id l.rows
