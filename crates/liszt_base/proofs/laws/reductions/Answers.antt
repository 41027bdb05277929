use Rattle.liszt_base.proofs.Operators.{commutes, associates}
use Rattle.liszt_base.proofs.laws.reductions.Goals as goal

pub returns-clause-commutes : goal.returns-clause-commutes
returns-clause-commutes c = commutes

pub returns-clause-associates : goal.returns-clause-associates
returns-clause-associates c = associates
