use Rattle.std.proofs.Common.{refl}
use Rattle.std.specs.Fmt.{digits}
use Rattle.liszt_report.proofs.cases.fields.Goals as goal

pub returns : goal.returns
unfolding digits
returns c = refl
