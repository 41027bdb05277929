use Rattle.liszt.proofs.OutcomeLemmas.{one_expected}
use Rattle.liszt.proofs.laws.one_outcome.Goals as goal

pub returns : goal.returns
returns c = one_expected
