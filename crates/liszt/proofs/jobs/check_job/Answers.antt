use Rattle.std.proofs.Common.{ap, ◌∙◌}
use Rattle.liszt_report.specs.Texts.{check_text}
use Rattle.liszt_tree.specs.Canonical.{canonical}
use Rattle.liszt_tree.specs.Tree.{program_tree}
use Rattle.mesh_topology.specs.Elements.{count}
use Rattle.liszt.proofs.jobs.check_job.Goals as goal

pub returns : goal.returns
returns c =
    ap (λ text. check_text text c.args.checked (count c.in_ok-mesh.mesh)) c.in_ok-text.ensures
    ∙ ap (λ mesh. check_text (canonical (program_tree c.args.program.now)) c.args.checked (count mesh)) c.in_ok-mesh.ensures
