use Rattle.std.proofs.Common.{◌<◌, ◌+◌, subst, drop, length, arith, sym, ap, ◌∙◌, length-drop}
use Rattle.tet_reader.specs.Tests.{first_some}
use Rattle.tet_reader.specs.Points.{IsCellRow}
use Rattle.tet_reader.proofs.Forms.{cell_form}
use Rattle.tet_reader.proofs.Lists.{cell_tests}
use Rattle.tet_reader.proofs.RowReadingLemmas.{row_read, all_rows_read}
use Rattle.tet_reader.proofs.NodeReading.{after_first}
use Rattle.tet_reader.proofs.EleReading.{ele_row_fault, cells_within}
use Rattle.tet_reader.proofs.cells.cell_rows.Goals as goal

pub returns-in-Err : goal.returns-in-Err
returns-in-Err c =
    let rows = c.args.rows.now.rows in
    let inside : c.loop-place.place < length (drop 1 rows) = omega (arith, c.loop-place-test.true, c.len-place-end.ensures, length-drop 1 rows) in
    ele_row_fault c.args.points c.args.base c.args.rows.now.last_line rows c.args.header c.args.first c.loop-place.place c.in-Err.what c.line-line.result
    c.fault_with_count-fault.result c.requires.heads c.requires.first inside c.loop-place.invariant.pass c.in-Err.ensures c.line-line.ensures
    c.fault_with_count-fault.ensures

pub loop-place-preserved : goal.loop-place-preserved
loop-place-preserved c =
    let rows = drop 1 c.args.rows.now.rows in
    let h = c.args.header in
    let tests = cell_tests h.cells h.attributes c.args.points c.args.base c.args.first in
    let IsRow = IsCellRow (cell_form h.attributes c.args.points c.args.base) in
    let place = c.loop-place.place in
    let inside : place < length rows =
    omega (arith, c.loop-place-test.true, c.len-place-end.ensures, length-drop 1 c.args.rows.now.rows) in
    let row = after_first c.args.rows.now.rows place c.requires.heads.0 in
    row_read tests IsRow c.args.first rows c.loop-place.cells c.push.new.self place c.in-Ok.cell inside c.loop-place.invariant
    (ap (λ r. first_some (tests place r.words)) (sym row) ∙ c.in-Ok.ensures.0)
    (subst (λ r. IsRow (c.args.first + place) r.words c.in-Ok.cell) row c.in-Ok.ensures.1) c.in_ok-push-in-Ok.ensures.ok

pub returns : goal.returns
returns c =
    let rows = drop 1 c.args.rows.now.rows in
    let h = c.args.header in
    let all = all_rows_read (cell_tests h.cells h.attributes c.args.points c.args.base c.args.first) (IsCellRow (cell_form h.attributes c.args.points c.args.base))
    c.args.first rows c.loop-place.cells c.loop-place.place c.loop-place.invariant
    (omega (arith, c.loop-place-test.false, c.len-place-end.ensures, length-drop 1 c.args.rows.now.rows)) in
    (all.1, cells_within c.args.points c.args.base rows h c.args.first all.0)
