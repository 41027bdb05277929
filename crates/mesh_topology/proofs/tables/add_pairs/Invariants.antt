use Rattle.std.proofs.Common.{◌≡◌, ◌++◌, map, take}
use Rattle.mesh_topology.specs.Internal.Incidence.{pair}
use Rattle.mesh_topology.proofs.tables.add_pairs.Given as goal

abbrev pub invariant-loop-other : goal.invariant-loop-other
invariant-loop-other l = l.table.items ≡ l.initial.table.items ++ map (pair l.first) (take l.other-index l.others)
