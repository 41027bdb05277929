use Rattle.std.proofs.Common.{◌≡◌, take}
use Rattle.mesh_topology.proofs.buckets.Buckets.lists.Given as goal

abbrev pub invariant-loop-i : goal.invariant-loop-i
invariant-loop-i l = l.lists ≡ take l.i l.self.lists
