use Rattle.std.proofs.Common.{take}
use Rattle.std.specs.List.{AllZip}
use Rattle.mesh_topology.specs.Internal.Combinations.{combinations, AreRanks}
use Rattle.mesh_topology.proofs.tables.face_edges.Given as goal

abbrev pub invariant-loop-corners : goal.invariant-loop-corners
invariant-loop-corners l = AllZip (λ corners ids. AreRanks l.edges (combinations 2 corners) ids) (take l.corners-index l.faces) l.rows.items
