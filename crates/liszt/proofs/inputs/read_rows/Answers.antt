use Rattle.std.proofs.Common.{ap, ◌∙◌}
use Rattle.text_scan.specs.Rows.{text_rows}
use Rattle.liszt.specs.Internal.Steps.{IsItself, AreItsRows}
use Rattle.liszt.proofs.StepLemmas.{step_value}
use Rattle.liszt.proofs.inputs.read_rows.Goals as goal

pub returns-clause-answers : goal.returns-clause-answers
returns-clause-answers g c files h =
    step_value files c.args.input c.args.name.now AreItsRows IsItself _ _ c.in_ok-bytes.bytes c.in_ok-rows_of.field-0 (c.in_ok-bytes.ensures.answers files h)
    (λ bytes same. c.in_ok-rows_of.ensures ∙ ap text_rows (c.as_slice.ensures ∙ same))
