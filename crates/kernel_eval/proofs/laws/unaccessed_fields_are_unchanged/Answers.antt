use Rattle.kernel_eval.proofs.ActModeLemmas.{iteration_in_modes}
use Rattle.kernel_eval.proofs.laws.unaccessed_fields_are_unchanged.Goals as goal

pub returns : goal.returns
returns c mesh comprehension turns s id field fits = (iteration_in_modes mesh comprehension turns s id fits).2 field
