use Rattle.std.proofs.Common.{ℕ, ◌<◌, ◌≤◌, [], length, get_or}
use Rattle.mesh_topology.specs.Internal.Combinations.{first_corner, AreStarts}
use Rattle.mesh_topology.proofs.corner_sets.starts.Given as goal

abbrev pub invariant-loop-v : goal.invariant-loop-v
invariant-loop-v g l =
    AreStarts l.table l.v l.starts.items × (l.next ≤ length l.table) × ((id : ℕ) → id < l.next → first_corner (get_or l.table id []) < l.v)
