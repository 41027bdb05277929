use Rattle.std.proofs.Common.{◌≡◌, Some, map, take}
use Rattle.std.specs.Prelude.{slice_get}
use Rattle.write_conflicts.specs.Conflicts.{reduced_spots}
use Rattle.write_conflicts.specs.Internal.Rows.{spot_of}
use Rattle.write_conflicts.proofs.ranks.ranked_lists.Given as goal

abbrev pub invariant-loop-i : goal.invariant-loop-i
invariant-loop-i l =
    map (λ numbers. map (slice_get (map spot_of l.keys)) numbers) l.touched
    ≡ map (λ list. map (λ spot. Some spot) (reduced_spots list)) (take l.i l.lists)
