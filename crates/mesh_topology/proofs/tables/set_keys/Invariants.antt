use Rattle.std.proofs.Common.{◌≡◌, take}
use Rattle.mesh_topology.specs.Internal.Incidence.{keys_in}
use Rattle.mesh_topology.proofs.tables.set_keys.Given as goal

abbrev pub invariant-loop-id : goal.invariant-loop-id
invariant-loop-id l = l.keys.items ≡ keys_in l.cells l.first (take l.id-index l.ids)
