use Rattle.std.proofs.Common.{take}
use Rattle.std.specs.List.{AllZip}
use Rattle.mesh_topology.specs.Internal.Combinations.{AreSortedCorners}
use Rattle.mesh_topology.proofs.tables.cell_vertices.Given as goal

abbrev pub invariant-loop-cell : goal.invariant-loop-cell
invariant-loop-cell l = AllZip AreSortedCorners (take l.cell-index l.cells) l.rows.items
