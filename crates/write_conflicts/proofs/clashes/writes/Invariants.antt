use Rattle.std.proofs.Common.{map}
use Rattle.write_conflicts.specs.Internal.Rows.{writer_of, AreWriters}
use Rattle.write_conflicts.proofs.clashes.writes.Given as goal

abbrev pub invariant-loop-i : goal.invariant-loop-i
invariant-loop-i l = AreWriters l.lists l.i (map writer_of l.rows.items)
