use Rattle.std.proofs.Common.{Err, List, inr, refl, subst}
use Rattle.liszt_base.specs.Gives.{Gives}
use Rattle.liszt_base.specs.MeshLists.{MeshLists}
use Rattle.liszt_base.specs.declared.answers.LimitFault.{LimitFault}
use Rattle.liszt_base.specs.declared.answers.Refused.{Refused}
use Rattle.liszt_tree.specs.Tree.{program_tree}
use Rattle.liszt_report.specs.declared.ended.Ended.TheVariants.{Limit}
use Rattle.stencil_infer.specs.Stencils.{StencilLists, program_inference}
use Rattle.liszt.specs.Expected.{InfersOn, refusal, stencils_outcome}
use Rattle.liszt.proofs.InferenceLemmas.{inference_limited, inference_made}
use Rattle.liszt.proofs.jobs.stencil_job.Goals as goal

pub returns-in-Err-Fault : goal.returns-in-Err-Fault
returns-in-Err-Fault c =
    let tree = program_tree c.args._program.now in
    let fault = c.in-Err-Fault.fault in
    let inference = program_inference c.in_ok-mesh.mesh tree in
    let inferred = subst (λ (refused : Refused LimitFault). Gives {A = List StencilLists} inference (Err refused)) c.in-Err-Fault.field-0-is (c.in-Err-Fault.ensures.inferred tree c.requires.checked) in
    inr (
      fault,
      refl,
      subst (λ (mesh : MeshLists). InfersOn tree mesh (refusal (Limit fault))) c.in_ok-mesh.ensures (inference_limited tree c.in_ok-mesh.mesh fault inferred),
    )

pub returns-in-Ok : goal.returns-in-Ok
returns-in-Ok c =
    let tree = program_tree c.args._program.now in
    let stencils = c.in-Ok.stencils in
    subst (λ (mesh : MeshLists). InfersOn tree mesh (stencils_outcome c.args.checked stencils)) c.in_ok-mesh.ensures
    (inference_made tree c.in_ok-mesh.mesh c.args.checked stencils c.requires.checked (c.in-Ok.ensures.inferred tree c.requires.checked))
