use Rattle.std.proofs.Common.{ap, ◌∙◌, length, arith}
use Rattle.std.specs.Prelude.{pos}
use Rattle.liszt_base.specs.declared.answers.MeshFile.TheVariants.{Ele}
use Rattle.liszt_base.specs.declared.answers.MeshWhat.TheVariants.{Missing}
use Rattle.tet_reader.specs.Faults.{fault_at}
use Rattle.tet_reader.proofs.EleReading.{ele_missing, ele_spells}
use Rattle.tet_reader.proofs.Lists.{ele_passes}
use Rattle.tet_reader.proofs.cells.read_cell_list.Goals as goal

pub returns-then-as_slice-header : goal.returns-then-as_slice-header
returns-then-as_slice-header c =
    ele_missing (length c.args.points.now) c.args.base c.args.rows.now.last_line c.args.rows.now.rows c.in-Ok.header c.first_number.result
    c.in_ok-cells.cells c.fault_with_count-fault.result c.in-Ok.ensures c.first_number.ensures c.in_ok-cells.ensures.0
    (omega (arith, c.if-as_slice-header.true, ap length c.as_slice.ensures))
    (c.fault_with_count-fault.ensures ∙ ap (λ l. fault_at Ele (pos c.in-Ok.header.cells) l Missing) c.last_line.ensures)

pub returns : goal.returns
returns c =
    let h = ele_spells c.args.points.now c.args.base c.args.rows.now.rows c.in-Ok.header c.first_number.result c.in_ok-cells.cells c.in-Ok.ensures
    c.first_number.ensures c.in_ok-cells.ensures.0 c.in_ok-cells.ensures.1 (omega (arith, c.if-as_slice-header.false, ap length c.as_slice.ensures)) in
    (ele_passes c.args.points.now c.args.base c.args.rows.now.last_line c.args.rows.now.rows c.in_ok-cells.cells h, h)
