use Rattle.std.proofs.Common.{◌≡◌, map, take}
use Rattle.std.specs.List.{flat_map}
use Rattle.write_conflicts.specs.Conflicts.{reduced_spots}
use Rattle.write_conflicts.specs.Internal.Rows.{spot_of}
use Rattle.write_conflicts.proofs.ranks.reduced_keys.Given as goal

abbrev pub invariant-loop-i : goal.invariant-loop-i
invariant-loop-i l = map spot_of l.keys.items ≡ flat_map reduced_spots (take l.i l.lists)
