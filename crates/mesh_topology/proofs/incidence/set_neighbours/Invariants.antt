use Rattle.std.proofs.Common.{◌≡◌, take}
use Rattle.mesh_topology.specs.Internal.Incidence.{other_members}
use Rattle.mesh_topology.proofs.incidence.set_neighbours.Given as goal

abbrev pub invariant-loop-by : goal.invariant-loop-by
invariant-loop-by l = l.others.items ≡ other_members l.id l.back (take l.by-index l.through)
