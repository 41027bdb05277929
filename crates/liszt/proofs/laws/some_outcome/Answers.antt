use Rattle.liszt.proofs.OutcomeLemmas.{some_expected}
use Rattle.liszt.proofs.laws.some_outcome.Goals as goal

pub returns : goal.returns
returns c = some_expected
