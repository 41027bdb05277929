use Rattle.std.proofs.Common.{◌≡◌, take}
use Rattle.mesh_topology.specs.Internal.Incidence.{members_above}
use Rattle.mesh_topology.proofs.tables.set_corners_above.Given as goal

abbrev pub invariant-loop-id : goal.invariant-loop-id
invariant-loop-id l = l.above.items ≡ members_above l.cells l.low (take l.id-index l.ids)
