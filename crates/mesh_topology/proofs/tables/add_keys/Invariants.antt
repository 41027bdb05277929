use Rattle.std.proofs.Common.{◌≡◌, ◌++◌, map, take, filter}
use Rattle.mesh_topology.specs.Internal.Combinations.{begins_with}
use Rattle.mesh_topology.specs.Internal.Incidence.{key}
use Rattle.mesh_topology.proofs.tables.add_keys.Given as goal

abbrev pub invariant-loop-triple : goal.invariant-loop-triple
invariant-loop-triple l = l.keys.items ≡ l.initial.keys.items ++ map key (filter (begins_with l.first) (take l.triple-index l.triples))
