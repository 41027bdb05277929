use Rattle.std.proofs.Common.{◌≡◌, ◌*◌, ◌≤◌, length}
use Rattle.write_conflicts.specs.Conflicts.{entries}
use Rattle.write_conflicts.proofs.tests.lists_of.Given as goal

abbrev pub invariant-loop-row : goal.invariant-loop-row
invariant-loop-row l = (length l.lists ≡ l.row-index) × (entries l.lists ≤ 8 * l.row-index)
