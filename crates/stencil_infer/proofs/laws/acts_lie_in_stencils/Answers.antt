use Rattle.stencil_infer.proofs.SoundnessLemmas.{acts_in_accesses, acts_in_stencil}
use Rattle.stencil_infer.proofs.laws.acts_lie_in_stencils.Goals as goal

pub returns-clause-accesses : goal.returns-clause-accesses
returns-clause-accesses c = acts_in_accesses

pub returns-clause-stencil : goal.returns-clause-stencil
returns-clause-stencil c = acts_in_stencil
