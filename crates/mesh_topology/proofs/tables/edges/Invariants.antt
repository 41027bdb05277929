use Rattle.std.proofs.Common.{flat_map}
use Rattle.mesh_topology.specs.Internal.Combinations.{combinations, IsTableBelow}
use Rattle.mesh_topology.proofs.tables.edges.Given as goal

abbrev pub invariant-loop-v : goal.invariant-loop-v
invariant-loop-v l = IsTableBelow (flat_map (combinations 2) l.cells) l.table.items l.v
