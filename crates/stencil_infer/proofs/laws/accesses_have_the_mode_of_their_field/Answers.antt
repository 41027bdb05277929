use Rattle.stencil_infer.proofs.AccessModeLemmas.{accesses_in_mode}
use Rattle.stencil_infer.proofs.laws.accesses_have_the_mode_of_their_field.Goals as goal

pub returns : goal.returns
returns c = accesses_in_mode
