use Rattle.mesh_topology.specs.Internal.Combinations.{AreRanksSoFar}
use Rattle.mesh_topology.proofs.corner_sets.ranks.Given as goal

abbrev pub invariant-loop-i : goal.invariant-loop-i
invariant-loop-i g l = AreRanksSoFar l.table l.sets l.i l.ids
