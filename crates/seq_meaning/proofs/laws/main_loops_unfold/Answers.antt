use Rattle.std.proofs.Common.{refl}
use Rattle.liszt_base.specs.declared.answers.TrapKind.TheVariants.{Spent}
use Rattle.phase_types.specs.Environments.{block_start, next_scope}
use Rattle.kernel_eval.specs.Meaning.{trap}
use Rattle.kernel_eval.proofs.LoopLemmas.{loop_is}
use Rattle.seq_meaning.specs.Runs.{in_program, in_scope, main_meaning, program_turns, truth_at}
use Rattle.seq_meaning.proofs.MainPreservationLemmas.{fewer_kept, main_keeps, scope_keeps, truth_keeps}
use Rattle.seq_meaning.proofs.laws.main_loops_unfold.Goals as goal

pub returns-clause-turns : goal.returns-clause-turns
returns-clause-turns c mesh turns site program p = (main_keeps fewer_kept mesh turns site program).preserved p

pub returns-clause-unfolded : goal.returns-clause-unfolded
returns-clause-unfolded c mesh turns site place test body =
    loop_is program_turns (λ n p. refl) (in_program (trap Spent place)) (in_scope (next_scope site) (main_meaning mesh turns (block_start site) body))
    (truth_at mesh site test) (λ again p. refl) (scope_keeps fewer_kept (next_scope site) (main_keeps fewer_kept mesh turns (block_start site) body)) (truth_keeps fewer_kept mesh site test)
