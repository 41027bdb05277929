use Rattle.kernel_eval.proofs.TypedEvaluationLemmas.{iteration_ends, iteration_fits}
use Rattle.kernel_eval.proofs.laws.typed_iterations_end.Goals as goal

pub returns-clause-ends : goal.returns-clause-ends
returns-clause-ends c = iteration_ends

pub returns-clause-fits : goal.returns-clause-fits
returns-clause-fits c = iteration_fits
