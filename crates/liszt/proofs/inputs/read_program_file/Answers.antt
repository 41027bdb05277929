use Rattle.std.proofs.Common.{ℕ, List, refl, subst, ap, Err, ◌∙◌}
use Rattle.std.proofs.lemmas.Result.{err_from_is_err_and}
use Rattle.liszt_base.specs.declared.answers.Input.TheVariants.{Program}
use Rattle.liszt_report.specs.Endings.{program_ending}
use Rattle.liszt.specs.Expected.{IsProgramFault, ProgramResult}
use Rattle.liszt.specs.Internal.Steps.{IsItself, as_tree}
use Rattle.liszt.proofs.StepLemmas.{step_failed}
use Rattle.liszt.proofs.inputs.read_program_file.Goals as goal

pub returns-in_err-read_program-clause-answers : goal.returns-in_err-read_program-clause-answers
returns-in_err-read_program-clause-answers g c files h =
    let p = err_from_is_err_and c.from_residual-in_err-read_program.result c.from_residual-in_err-read_program.ensures.1 in
    step_failed files Program c.args.name.now ProgramResult IsItself _ _ c.in_ok-bytes.bytes program_ending c.in_err-read_program.field-0.0 _ (ap as_tree (p.1 ∙ ap Err p.2)) (c.in_ok-bytes.ensures.answers files h)
    (λ bytes fault is same.
    let of_fault = subst (λ (b : List ℕ). IsProgramFault b fault) (c.as_slice.ensures ∙ same) (rw is at c.in_err-read_program.ensures.reads) in
    (fault, of_fault, refl))
