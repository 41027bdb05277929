use Rattle.stencil_infer.proofs.StencilLemmas.{has_stencil, same_stencil}
use Rattle.stencil_infer.proofs.laws.iterations_have_one_stencil.Goals as goal

pub returns-clause-exists : goal.returns-clause-exists
returns-clause-exists c = has_stencil

pub returns-clause-unique : goal.returns-clause-unique
returns-clause-unique c = same_stencil
