use Rattle.std.proofs.Common.{Err, inr, refl, subst}
use Rattle.liszt_base.specs.Gives.{Gives}
use Rattle.liszt_base.specs.MeshLists.{MeshLists}
use Rattle.liszt_base.specs.declared.answers.LimitFault.{LimitFault}
use Rattle.liszt_base.specs.declared.answers.Refused.{Refused}
use Rattle.liszt_tree.specs.Tree.{program_tree}
use Rattle.liszt_report.specs.declared.ended.Ended.TheVariants.{Limit}
use Rattle.seq_meaning.specs.FieldStores.{StoreWords, prepared_store}
use Rattle.liszt_report.specs.FieldValues.{value_at}
use Rattle.liszt_report.specs.Texts.{fields_text}
use Rattle.mesh_topology.specs.Elements.{count}
use Rattle.liszt.specs.Expected.{RunsOn, outcome_of_run, refusal}
use Rattle.liszt.specs.Internal.Steps.{run_values, seq_prints}
use Rattle.liszt.proofs.RunLemmas.{run_limited, run_made}
use Rattle.liszt.proofs.jobs.seq_job.Goals as goal

pub returns-in-Err-Fault : goal.returns-in-Err-Fault
returns-in-Err-Fault c =
    let tree = program_tree c.args._program.now in
    let fault = c.in-Err-Fault.fault in
    let words = prepared_store c.args.checked.fields c.in_ok-mesh.mesh in
    let prepared = subst (λ (refused : Refused LimitFault). Gives {A = StoreWords} words (Err refused)) c.in-Err-Fault.field-0-is c.in-Err-Fault.ensures.gives in
    inr (
      fault,
      refl,
      subst (λ (mesh : MeshLists). RunsOn c.args.turns tree mesh (refusal (Limit fault))) c.in_ok-mesh.ensures
          (run_limited c.args.turns tree c.in_ok-mesh.mesh c.args.checked c.requires.checked fault prepared),
    )

pub returns : goal.returns
returns c =
    let tree = program_tree c.args._program.now in
    let mesh = c.in_ok-mesh.mesh in
    let store = c.run_seq-end.new.store in
    let end = c.run_seq-end.result in
    let outcome = outcome_of_run end (seq_prints store) (fields_text (count mesh) (value_at (run_values store.fields)) c.args.checked.fields) in
    subst (λ (mesh : MeshLists). RunsOn c.args.turns tree mesh outcome) c.in_ok-mesh.ensures
    (run_made c.args.turns tree mesh c.args.checked c.requires.checked store c.in-Ok.store.fields end c.in-Ok.ensures.gives (c.run_seq-end.ensures.ran tree c.requires.checked))
