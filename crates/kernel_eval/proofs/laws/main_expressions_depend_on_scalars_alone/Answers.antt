use Rattle.std.proofs.Common.{refl}
use Rattle.kernel_eval.proofs.MainExpressionLemmas.{nothing_changed, same_answer}
use Rattle.kernel_eval.proofs.laws.main_expressions_depend_on_scalars_alone.Goals as goal

pub returns-clause-answer : goal.returns-clause-answer
returns-clause-answer c mesh other environment e s t same = same_answer s t same mesh other environment e

pub returns-clause-unchanged : goal.returns-clause-unchanged
returns-clause-unchanged c mesh environment e s = nothing_changed s s refl mesh mesh environment e
