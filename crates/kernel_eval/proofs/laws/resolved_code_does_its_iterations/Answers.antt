use Rattle.kernel_eval.proofs.CodeIterationLemmas.{checked_code_does}
use Rattle.kernel_eval.proofs.laws.resolved_code_does_its_iterations.Goals as goal

pub returns : goal.returns
returns c = checked_code_does
