use Rattle.kernel_eval.proofs.HistoryLemmas.{history_unread}
use Rattle.kernel_eval.proofs.TraversalLemmas.{over_body}
use Rattle.kernel_eval.proofs.laws.acts_are_never_read.Goals as goal

pub returns : goal.returns
returns c mesh environment body acts folds = over_body (history_unread acts folds) mesh environment body (λ a t. tt {0})
