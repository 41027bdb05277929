use Rattle.std.proofs.Common.{◌≡◌, ◌++◌, Some, map, take}
use Rattle.std.specs.Prelude.{slice_get}
use Rattle.write_conflicts.specs.Conflicts.{reduced_spots}
use Rattle.write_conflicts.specs.Internal.Rows.{spot_of}
use Rattle.write_conflicts.proofs.ranks.add_ranks.Given as goal

abbrev pub invariant-loop-access : goal.invariant-loop-access
invariant-loop-access l =
    map (slice_get (map spot_of l.keys)) l.ranks.items
    ≡ map (slice_get (map spot_of l.keys)) l.initial.ranks.items
    ++ map (λ spot. Some spot) (reduced_spots (take l.access-index l.accesses))
