use Rattle.batch_core.proofs.StepLemmas.{lists_in_range}
use Rattle.batch_core.proofs.laws.lists_in_range.Goals as goal

pub returns : goal.returns
returns c = lists_in_range
