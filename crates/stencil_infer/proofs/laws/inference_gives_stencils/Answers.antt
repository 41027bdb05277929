use Rattle.stencil_infer.proofs.InferLemmas.{lists_are_stencils}
use Rattle.stencil_infer.proofs.laws.inference_gives_stencils.Goals as goal

pub returns : goal.returns
returns c = lists_are_stencils
