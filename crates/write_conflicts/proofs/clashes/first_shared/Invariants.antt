use Rattle.write_conflicts.proofs.ClashLemmas.{HaveOneIteration}
use Rattle.write_conflicts.proofs.clashes.first_shared.Given as goal

abbrev pub invariant-loop-next : goal.invariant-loop-next
invariant-loop-next l = HaveOneIteration l.rows l.next
