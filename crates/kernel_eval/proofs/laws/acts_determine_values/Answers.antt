use Rattle.kernel_eval.specs.Meaning.{body_meaning}
use Rattle.kernel_eval.proofs.PreservationLemmas.{keeps_body}
use Rattle.kernel_eval.proofs.ActLemmas.{fields_made}
use Rattle.kernel_eval.proofs.ValueLemmas.{values_determined}
use Rattle.kernel_eval.proofs.laws.acts_determine_values.Goals as goal

pub returns : goal.returns
returns c mesh environment body = record {
  preserved = λ m. values_determined m (body_meaning mesh environment body m).after ((keeps_body fields_made mesh environment body (λ a t. tt {0})).preserved m);
}
