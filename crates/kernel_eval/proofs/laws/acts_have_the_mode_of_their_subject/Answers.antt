use Rattle.kernel_eval.proofs.ActModeLemmas.{iteration_in_modes}
use Rattle.kernel_eval.proofs.laws.acts_have_the_mode_of_their_subject.Goals as goal

pub returns-clause-acts : goal.returns-clause-acts
returns-clause-acts c mesh comprehension turns s id fits = (iteration_in_modes mesh comprehension turns s id fits).0 (tt {0})

pub returns-clause-folds : goal.returns-clause-folds
returns-clause-folds c mesh comprehension turns s id fits = (iteration_in_modes mesh comprehension turns s id fits).1 (tt {0})
