use Rattle.std.proofs.Common.{Err, ap, ◌∙◌}
use Rattle.std.proofs.lemmas.Result.{err_from_is_err_and}
use Rattle.liszt_tree.specs.Tree.{program_tree}
use Rattle.phase_types.proofs.FaultLemmas.{no_fault}
use Rattle.liszt.proofs.StepLemmas.{check_made, job_refused, mode_made, mode_refused}
use Rattle.command_words.specs.declared.command.Mode.TheVariants.{Stencil, Seq}
use Rattle.liszt.specs.declared.job.Job.TheVariants as jobs
use Rattle.liszt.specs.Internal.Steps.{seq_outcome, stencil_outcome}
use Rattle.liszt.proofs.jobs.make_job.Goals as goal

pub returns-in_err-checked : goal.returns-in_err-checked
returns-in_err-checked c =
    let p = err_from_is_err_and c.from_residual.result c.from_residual.ensures.1 in
    job_refused c.args.mode (program_tree c.args.program.now) c.args.mesh c.from_residual.result c.in_err-checked.field-0.0 c.in_err-checked.ensures.gives (p.1 ∙ ap Err p.2)

pub returns-in_err-stencil_job-in-Stencil : goal.returns-in_err-stencil_job-in-Stencil
returns-in_err-stencil_job-in-Stencil c =
    let tree = program_tree c.args.program.now in
    let p = err_from_is_err_and c.from_residual-in_err-stencil_job-in-Stencil.result c.from_residual-in_err-stencil_job-in-Stencil.ensures.1 in
    mode_refused stencil_outcome c.args.mode Stencil tree c.args.mesh c.from_residual-in_err-stencil_job-in-Stencil.result c.in_err-stencil_job-in-Stencil.field-0.0 c.in-Stencil.is
    (no_fault tree c.in_ok-checked.ensures.typed) c.in_err-stencil_job-in-Stencil.ensures (p.1 ∙ ap Err p.2)

pub returns-in_err-seq_job-in-Seq : goal.returns-in_err-seq_job-in-Seq
returns-in_err-seq_job-in-Seq c =
    let tree = program_tree c.args.program.now in
    let p = err_from_is_err_and c.from_residual-in_err-seq_job-in-Seq.result c.from_residual-in_err-seq_job-in-Seq.ensures.1 in
    mode_refused seq_outcome c.args.mode (Seq c.in-Seq.turns) tree c.args.mesh c.from_residual-in_err-seq_job-in-Seq.result c.in_err-seq_job-in-Seq.field-0.0 c.in-Seq.is
    (no_fault tree c.in_ok-checked.ensures.typed) c.in_err-seq_job-in-Seq.ensures (p.1 ∙ ap Err p.2)

pub returns-in_ok-check_job-in-Check : goal.returns-in_ok-check_job-in-Check
returns-in_ok-check_job-in-Check c =
    let tree = program_tree c.args.program.now in
    check_made c.args.mode tree c.args.mesh c.in_ok-checked.checked c.in_ok-check_job-in-Check.field-0 c.in-Check.is (no_fault tree c.in_ok-checked.ensures.typed) c.in_ok-checked.ensures.gives
    c.in_ok-check_job-in-Check.ensures

pub returns-in_ok-stencil_job-in-Stencil : goal.returns-in_ok-stencil_job-in-Stencil
returns-in_ok-stencil_job-in-Stencil c =
    let tree = program_tree c.args.program.now in
    mode_made c.args.mode Stencil tree c.args.mesh (jobs.Stencil c.in_ok-stencil_job-in-Stencil.field-0) c.in-Stencil.is (no_fault tree c.in_ok-checked.ensures.typed) c.in_ok-stencil_job-in-Stencil.ensures

pub returns-in_ok-seq_job-in-Seq : goal.returns-in_ok-seq_job-in-Seq
returns-in_ok-seq_job-in-Seq c =
    let tree = program_tree c.args.program.now in
    mode_made c.args.mode (Seq c.in-Seq.turns) tree c.args.mesh (jobs.Seq c.in_ok-seq_job-in-Seq.field-0) c.in-Seq.is (no_fault tree c.in_ok-checked.ensures.typed) c.in_ok-seq_job-in-Seq.ensures
