use Rattle.kernel_eval.proofs.ElementExpressionLemmas.{element_is}
use Rattle.kernel_eval.proofs.laws.elements_depend_on_bindings_alone.Goals as goal

pub returns : goal.returns
returns c mesh environment e m x is = element_is mesh environment e m x is
