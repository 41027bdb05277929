use Rattle.kernel_eval.proofs.PreservationLemmas.{keeps_body}
use Rattle.kernel_eval.proofs.ActLemmas.{turns_kept}
use Rattle.kernel_eval.proofs.laws.turns_do_not_increase.Goals as goal

pub returns : goal.returns
returns c mesh environment body = keeps_body turns_kept mesh environment body (λ a t. tt {0})
