use Rattle.std.proofs.Common.{◌+◌, take}
use Rattle.mesh_topology.specs.Internal.Incidence.{AreChangedAt}
use Rattle.mesh_topology.proofs.incidence.count_ids.Given as goal

abbrev pub invariant-loop-y : goal.invariant-loop-y
invariant-loop-y l = AreChangedAt 0 (λ n. n + 1) (take l.y-index l.row) l.initial.degrees l.degrees
