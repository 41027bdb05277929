use Rattle.std.proofs.Common.{ap, ◌∙◌, length, arith}
use Rattle.std.specs.Prelude.{pos}
use Rattle.liszt_base.specs.declared.answers.MeshFile.TheVariants.{Node}
use Rattle.liszt_base.specs.declared.answers.MeshWhat.TheVariants.{Missing}
use Rattle.tet_reader.specs.Faults.{fault_at}
use Rattle.tet_reader.proofs.NodeReading.{node_missing, node_spells}
use Rattle.tet_reader.proofs.Lists.{node_passes}
use Rattle.tet_reader.proofs.points.read_points.Goals as goal

pub returns-then-as_slice-header : goal.returns-then-as_slice-header
returns-then-as_slice-header c =
    node_missing c.args.rows.now.last_line c.args.rows.now.rows c.in-Ok.header c.first_number-base.result c.in_ok-list.list c.fault_with_count-fault.result
    c.in-Ok.ensures c.first_number-base.ensures c.in_ok-list.ensures.0 (omega (arith, c.if-as_slice-header.true, ap length c.as_slice.ensures))
    (c.fault_with_count-fault.ensures ∙ ap (λ l. fault_at Node (pos c.in-Ok.header.points) l Missing) c.last_line.ensures)

pub returns : goal.returns
returns c =
    let h = node_spells c.args.rows.now.rows c.in-Ok.header c.first_number-base.result c.in_ok-list.list c.in-Ok.ensures c.first_number-base.ensures
    c.in_ok-list.ensures.0 c.in_ok-list.ensures.1 (omega (arith, c.if-as_slice-header.false, ap length c.as_slice.ensures)) in
    (node_passes c.args.rows.now.last_line c.args.rows.now.rows c.first_number-base.result c.in_ok-list.list h, h)
