use Rattle.std.proofs.Common.{◌≡◌, ◌++◌, map, take}
use Rattle.mesh_topology.specs.Internal.Incidence.{triple}
use Rattle.mesh_topology.proofs.tables.add_triples.Given as goal

abbrev pub invariant-loop-key : goal.invariant-loop-key
invariant-loop-key l = l.table.items ≡ l.initial.table.items ++ map (triple l.first) (take l.key-index l.keys)
