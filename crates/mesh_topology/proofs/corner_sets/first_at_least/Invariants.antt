use Rattle.std.proofs.Common.{ℕ, ◌-◌, ◌<◌, ◌≤◌, [], length, get_or}
use Rattle.mesh_topology.specs.Internal.Combinations.{first_corner}
use Rattle.mesh_topology.proofs.corner_sets.first_at_least.Given as goal

abbrev pub invariant-loop-next : goal.invariant-loop-next
invariant-loop-next g l =
    (l.from ≤ l.next) × (l.next ≤ length l.table) × ((id : ℕ) → l.from ≤ id → id < l.next → first_corner (get_or l.table id []) < l.v)

abbrev pub decreases-loop-next : goal.decreases-loop-next
decreases-loop-next g l = length l.table - l.next
