use Rattle.std.proofs.Common.{refl}
use Rattle.std.specs.Fmt.{digits}
use Rattle.liszt_tree.proofs.cases.programs.Goals as goal

pub returns-clause-degrees : goal.returns-clause-degrees
unfolding digits
returns-clause-degrees c = refl

pub returns-clause-choices : goal.returns-clause-choices
unfolding digits
returns-clause-choices c = refl

pub returns-clause-over_faces : goal.returns-clause-over_faces
unfolding digits
returns-clause-over_faces c = refl
