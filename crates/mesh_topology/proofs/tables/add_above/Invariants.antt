use Rattle.std.proofs.Common.{◌≡◌, ◌++◌, take, filter}
use Rattle.mesh_topology.specs.Internal.Incidence.{is_above}
use Rattle.mesh_topology.proofs.tables.add_above.Given as goal

abbrev pub invariant-loop-corner : goal.invariant-loop-corner
invariant-loop-corner l = l.above.items ≡ l.initial.above.items ++ filter (is_above l.low) (take l.corner-index l.corners)
