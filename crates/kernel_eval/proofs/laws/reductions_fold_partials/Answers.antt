use Rattle.kernel_eval.proofs.ReductionLemmas.{folded_partial}
use Rattle.kernel_eval.proofs.laws.reductions_fold_partials.Goals as goal

pub returns : goal.returns
returns c = folded_partial
