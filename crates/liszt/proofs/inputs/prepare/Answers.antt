use Rattle.std.proofs.Common.{Err, Result, ap, sym, subst, ◌∙◌}
use Rattle.std.specs.Option.{option_map}
use Rattle.std.proofs.lemmas.Result.{err_from_is_err_and}
use Rattle.command_words.specs.Commands.{invocation}
use Rattle.liszt_report.specs.declared.ended.Ended.{Ended}
use Rattle.liszt.specs.declared.job.Job.{Job}
use Rattle.liszt.specs.Internal.Steps.{Prepares}
use Rattle.liszt.proofs.StepLemmas.{all_inputs, job_cause, job_no_usage, made_job, ele_refused, no_usage}
use Rattle.liszt_tree.specs.Tree.{program_tree}
use Rattle.liszt.proofs.inputs.prepare.Goals as goal

pub returns-in_err-program-clause-only : goal.returns-in_err-program-clause-only
returns-in_err-program-clause-only g c h =
    let p = err_from_is_err_and c.from_residual-in_err-program.result c.from_residual-in_err-program.ensures.1 in
    absurd (no_usage c.in_err-program.field-0.0 c.from_residual-in_err-program.result (p.1 ∙ ap Err p.2) c.in_err-program.ensures.not_usage h)

pub returns-in_err-points-clause-only : goal.returns-in_err-points-clause-only
returns-in_err-points-clause-only g c h =
    let p = err_from_is_err_and c.from_residual-in_err-points.result c.from_residual-in_err-points.ensures.1 in
    absurd (no_usage c.in_err-points.field-0.0 c.from_residual-in_err-points.result (p.1 ∙ ap Err p.2) c.in_err-points.ensures.not_usage h)

pub returns-in_err-mesh-clause-only : goal.returns-in_err-mesh-clause-only
returns-in_err-mesh-clause-only g c h =
    let p = err_from_is_err_and c.from_residual-in_err-mesh.result c.from_residual-in_err-mesh.ensures.1 in
    absurd (no_usage c.in_err-mesh.field-0.0 c.from_residual-in_err-mesh.result (p.1 ∙ ap Err p.2) c.in_err-mesh.ensures.not_usage h)

pub returns-in_err-mesh-clause-answers : goal.returns-in_err-mesh-clause-answers
returns-in_err-mesh-clause-answers g c files h =
    let p = err_from_is_err_and c.from_residual-in_err-mesh.result c.from_residual-in_err-mesh.ensures.1 in
    let command = sym c.in_ok-command.ensures.command ∙ ap (option_map invocation) c.in-Some.is in
    let first = c.in_ok-program.ensures.answers files h in
    let h₁ = c.in_ok-program.ensures.contents ∙ h in
    let second = c.in_ok-points.ensures.answers files h₁ in
    let h₂ = c.in_ok-points.ensures.contents ∙ h₁ in
    let third = c.in_err-mesh.ensures.answers files h₂ in
    let before = g.F.Shelf.tally c.args.shelf.now in
    let now = g.F.Shelf.tally c.read_ele_file.new.shelf in
    subst (λ (r : Result Job Ended). Prepares c.args.words.now files before now r) (sym (p.1 ∙ ap Err p.2))
    (ele_refused c.args.words.now files _ (program_tree c.in_ok-program.program) c.in_ok-points.points before (g.F.Shelf.tally c.read_program_file.new.shelf) (g.F.Shelf.tally c.read_node_file.new.shelf) now c.in_err-mesh.field-0.0 command first second third)

pub returns-clause-answers : goal.returns-clause-answers
returns-clause-answers g c files h =
    let command = sym c.in_ok-command.ensures.command ∙ ap (option_map invocation) c.in-Some.is in
    let first = c.in_ok-program.ensures.answers files h in
    let h₁ = c.in_ok-program.ensures.contents ∙ h in
    let second = c.in_ok-points.ensures.answers files h₁ in
    let h₂ = c.in_ok-points.ensures.contents ∙ h₁ in
    let third = c.in_ok-mesh.ensures.answers files h₂ in
    all_inputs c.args.words.now files _ (program_tree c.in_ok-program.program) c.in_ok-points.points c.in_ok-mesh.mesh c.make_job.result _ _ _ _ command first second third c.make_job.ensures

pub returns-clause-cause : goal.returns-clause-cause
returns-clause-cause g c = job_cause _ _ _ (program_tree c.in_ok-program.program) c.in_ok-mesh.mesh c.make_job.result c.make_job.ensures
    (c.in_ok-mesh.ensures.cause ∙ c.in_ok-points.ensures.cause ∙ c.in_ok-program.ensures.cause)

pub returns-clause-only : goal.returns-clause-only
returns-clause-only g c h = absurd (job_no_usage _ (program_tree c.in_ok-program.program) c.in_ok-mesh.mesh c.make_job.result c.make_job.ensures h)

pub returns-clause-job : goal.returns-clause-job
returns-clause-job g c =
    let command = sym c.in_ok-command.ensures.command ∙ ap (option_map invocation) c.in-Some.is in
    made_job c.args.words.now _ (program_tree c.in_ok-program.program) c.in_ok-mesh.mesh c.make_job.result command c.make_job.ensures
