use Rattle.std.proofs.Common.{ap}
use Rattle.kernel_eval.specs.Meaning.{body_meaning, statement_meaning}
use Rattle.kernel_eval.specs.Outcomes.{continue_with}
use Rattle.kernel_eval.proofs.laws.halt_ends_the_body.Goals as goal

pub returns : goal.returns
returns c mesh environment s rest m stop e =
    ap (continue_with (λ done. body_meaning mesh environment rest) (statement_meaning mesh environment s m).after) e
