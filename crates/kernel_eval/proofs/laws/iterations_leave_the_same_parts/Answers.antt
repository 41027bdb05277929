use Rattle.kernel_eval.proofs.PartLemmas.{iteration_knows, iteration_lengths}
use Rattle.kernel_eval.proofs.laws.iterations_leave_the_same_parts.Goals as goal

pub returns-clause-fields : goal.returns-clause-fields
returns-clause-fields c = iteration_lengths

pub returns-clause-scalars : goal.returns-clause-scalars
returns-clause-scalars c = iteration_knows
