use Rattle.stencil_infer.proofs.ProgramInferenceLemmas.{HasLeft}
use Rattle.stencil_infer.proofs.program_inference.room_after.Given as goal

abbrev pub invariant-loop-id : goal.invariant-loop-id
invariant-loop-id l = HasLeft l.lists l.fn.room l.left l.id
