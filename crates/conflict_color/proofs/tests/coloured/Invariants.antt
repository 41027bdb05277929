use Rattle.std.proofs.Common.{◌≡◌, length}
use Rattle.conflict_color.proofs.tests.coloured.Given as goal

abbrev pub invariant-loop-list : goal.invariant-loop-list
invariant-loop-list l = length l.touched ≡ l.list-index
