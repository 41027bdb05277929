use Rattle.std.proofs.Common.{◌≡◌, ◌*◌, ◌≤◌, get_or}
use Rattle.mesh_topology.specs.Internal.Buckets.{AreStartsOf}
use Rattle.mesh_topology.proofs.buckets.list_starts.Given as goal

abbrev pub invariant-loop-capacity : goal.invariant-loop-capacity
invariant-loop-capacity l =
    AreStartsOf l.capacities l.capacity-index l.starts.items × (l.next ≡ get_or l.starts.items l.capacity-index 0) × (l.next ≤ l.capacity-index * 4294967295)
