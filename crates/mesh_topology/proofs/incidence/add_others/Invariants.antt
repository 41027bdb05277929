use Rattle.std.proofs.Common.{◌≡◌, ◌++◌, take, filter}
use Rattle.mesh_topology.specs.Internal.Incidence.{differs_from}
use Rattle.mesh_topology.proofs.incidence.add_others.Given as goal

abbrev pub invariant-loop-other : goal.invariant-loop-other
invariant-loop-other l = l.others.items ≡ l.initial.others.items ++ filter (differs_from l.id) (take l.other-index l.list)
