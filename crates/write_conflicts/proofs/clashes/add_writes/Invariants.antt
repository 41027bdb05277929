use Rattle.std.proofs.Common.{◌≡◌, ◌++◌, map, take}
use Rattle.write_conflicts.specs.Internal.Rows.{writer_of, writers_in}
use Rattle.write_conflicts.proofs.clashes.add_writes.Given as goal

abbrev pub invariant-loop-access : goal.invariant-loop-access
invariant-loop-access l =
    map writer_of l.rows.items ≡ map writer_of l.initial.rows.items ++ writers_in l.iteration (take l.access-index l.accesses)
