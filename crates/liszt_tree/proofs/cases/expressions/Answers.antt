use Rattle.std.proofs.Common.{refl}
use Rattle.std.specs.Fmt.{digits}
use Rattle.liszt_tree.proofs.cases.expressions.Goals as goal

pub returns-clause-brackets : goal.returns-clause-brackets
unfolding digits
returns-clause-brackets c = refl
