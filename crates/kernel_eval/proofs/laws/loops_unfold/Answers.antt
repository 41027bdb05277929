use Rattle.std.proofs.Common.{refl}
use Rattle.liszt_base.specs.declared.answers.TrapKind.TheVariants.{Spent}
use Rattle.kernel_eval.specs.Meaning.{body_meaning, in_block, evaluation_turns, trap, truth_in}
use Rattle.kernel_eval.proofs.PreservationLemmas.{keeps_body, keeps_in_block, keeps_truth_in}
use Rattle.kernel_eval.proofs.ActLemmas.{turns_kept}
use Rattle.kernel_eval.proofs.LoopLemmas.{loop_is}
use Rattle.kernel_eval.proofs.laws.loops_unfold.Goals as goal

pub returns : goal.returns
returns c mesh environment place test body =
    loop_is evaluation_turns (λ n m. refl) (trap Spent place) (in_block (body_meaning mesh environment body)) (truth_in mesh environment test) (λ again m. refl)
    (keeps_in_block turns_kept (keeps_body turns_kept mesh environment body (λ a t. tt {0}))) (keeps_truth_in turns_kept mesh environment test (λ a t. tt {0}))
