use Rattle.std.proofs.Common.{◌≡◌, ◌++◌, map, take}
use Rattle.write_conflicts.specs.Conflicts.{reduced_spots}
use Rattle.write_conflicts.specs.Internal.Rows.{spot_of}
use Rattle.write_conflicts.proofs.ranks.add_keys.Given as goal

abbrev pub invariant-loop-access : goal.invariant-loop-access
invariant-loop-access l =
    map spot_of l.keys.items ≡ map spot_of l.initial.keys.items ++ reduced_spots (take l.access-index l.accesses)
