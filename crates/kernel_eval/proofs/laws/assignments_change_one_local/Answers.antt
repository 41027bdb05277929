use Rattle.kernel_eval.proofs.BindingLemmas.{one_local_assigned}
use Rattle.kernel_eval.proofs.laws.assignments_change_one_local.Goals as goal

pub returns : goal.returns
returns c = one_local_assigned
