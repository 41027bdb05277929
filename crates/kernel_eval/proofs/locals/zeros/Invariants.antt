use Rattle.std.proofs.Common.{◌≤◌, ◌-◌, length}
use Rattle.kernel_eval.proofs.locals.zeros.Given as goal

abbrev pub invariant-loop-list : goal.invariant-loop-list
invariant-loop-list l = length l.list ≤ l.count

abbrev pub decreases-loop-list : goal.decreases-loop-list
decreases-loop-list l = l.count - length l.list
