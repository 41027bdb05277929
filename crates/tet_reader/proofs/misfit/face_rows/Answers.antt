use Rattle.std.proofs.Common.{[]}
use Rattle.std.specs.Prelude.{pos}
use Rattle.liszt_base.specs.Corners.{induced_cycles}
use Rattle.liszt_base.specs.declared.mesh.RawCell.{RawCell}
use Rattle.tet_reader.proofs.RowTableLemmas.{rows_more}
use Rattle.tet_reader.proofs.misfit.face_rows.Goals as goal

pub loop-place-preserved : goal.loop-place-preserved
loop-place-preserved c =
    let none : RawCell = record { corners = []; region = pos 0 } in
    let pieces = λ (cell : RawCell). induced_cycles cell.corners in
    rw c.in_ok-extend_from_slice.ensures.items (
    rows_more pieces c.args.cells.now c.loop-place.place none c.loop-place.rows.items c.sorted_face_rows.result c.loop-place-test.true
    c.loop-place.invariant c.sorted_face_rows.ensures
    )
