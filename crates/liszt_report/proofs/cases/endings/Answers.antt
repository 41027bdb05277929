use Rattle.std.proofs.Common.{refl}
use Rattle.std.specs.Fmt.{digits}
use Rattle.liszt_report.proofs.cases.endings.Goals as goal

pub returns-clause-main : goal.returns-clause-main
unfolding digits
returns-clause-main c = refl

pub returns-clause-edge : goal.returns-clause-edge
unfolding digits
returns-clause-edge c = refl

pub returns-clause-visits : goal.returns-clause-visits
unfolding digits
returns-clause-visits c = refl
