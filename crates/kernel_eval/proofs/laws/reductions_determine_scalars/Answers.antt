use Rattle.kernel_eval.proofs.ReductionLemmas.{iteration_folds, iteration_scalars, unreduced_stays}
use Rattle.kernel_eval.proofs.laws.reductions_determine_scalars.Goals as goal

pub returns-clause-scalars : goal.returns-clause-scalars
returns-clause-scalars c = iteration_scalars

pub returns-clause-unreduced : goal.returns-clause-unreduced
returns-clause-unreduced c = unreduced_stays

pub returns-clause-prints : goal.returns-clause-prints
returns-clause-prints c mesh over turns s id fits = (iteration_folds mesh over turns s id fits).prints_are
