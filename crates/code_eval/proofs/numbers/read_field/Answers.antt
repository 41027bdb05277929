use Rattle.std.proofs.Common.{arith, refl}
use Rattle.code_eval.proofs.LeadingLemmas.{changed}
use Rattle.code_eval.proofs.numbers.read_field.Goals as goal

pub returns-in-None : goal.returns-in-None
returns-in-None g c = rw (c.in-None.is, c.stop.ensures) (changed (omega arith) (λ view. refl))
