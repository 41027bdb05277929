use Rattle.kernel_eval.proofs.PartLemmas.{iteration_knows, iteration_lengths}
use Rattle.kernel_eval.proofs.ReductionLemmas.{iteration_folds}
use Rattle.kernel_eval.specs.States.{field_lengths, known_scalars}
use Rattle.seq_meaning.specs.Runs.{after_iteration}
use Rattle.seq_meaning.proofs.IterationLemmas.{for_each_unchanged}
use Rattle.seq_meaning.proofs.laws.iterations_leave_prints_and_parts.Goals as goal

pub returns-clause-prints : goal.returns-clause-prints
returns-clause-prints c mesh over turns ids s fits =
    for_each_unchanged (λ s. s.prints) (after_iteration mesh over turns) (λ id s. (iteration_folds mesh over turns s id fits).prints_are) ids s

pub returns-clause-fields : goal.returns-clause-fields
returns-clause-fields c mesh over turns ids s =
    for_each_unchanged field_lengths (after_iteration mesh over turns) (λ id s. iteration_lengths mesh over turns s id) ids s

pub returns-clause-scalars : goal.returns-clause-scalars
returns-clause-scalars c mesh over turns ids s =
    for_each_unchanged known_scalars (after_iteration mesh over turns) (λ id s. iteration_knows mesh over turns s id) ids s
