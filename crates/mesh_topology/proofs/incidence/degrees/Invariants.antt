use Rattle.mesh_topology.specs.Internal.Incidence.{AreDegreesSoFar}
use Rattle.mesh_topology.proofs.incidence.degrees.Given as goal

abbrev pub invariant-loop-row : goal.invariant-loop-row
invariant-loop-row g l = AreDegreesSoFar l.rows l.count l.row-index l.degrees.items
