use Rattle.word_region.specs.Internal.Tables.{IsTable}
use Rattle.word_region.proofs.sums.zeros.Given as goal

abbrev pub invariant-loop : goal.invariant-loop
invariant-loop l = IsTable l.counter (λ _. 0) l.list
