use Rattle.std.proofs.Common.{flat_map}
use Rattle.mesh_topology.specs.Internal.Combinations.{combinations, IsTableBelow}
use Rattle.mesh_topology.proofs.tables.faces.Given as goal

abbrev pub invariant-loop-v : goal.invariant-loop-v
invariant-loop-v l = IsTableBelow (flat_map (combinations 3) l.cells) l.table.items l.v
