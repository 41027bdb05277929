use Rattle.std.proofs.Common.{◌<◌, ◌+◌, subst, drop, length, arith, sym, ap, ◌∙◌, length-drop}
use Rattle.tet_reader.specs.Tests.{first_some}
use Rattle.tet_reader.specs.Points.{IsPointRow}
use Rattle.tet_reader.proofs.Lists.{point_tests}
use Rattle.tet_reader.proofs.RowReadingLemmas.{row_read, all_rows_read}
use Rattle.tet_reader.proofs.NodeReading.{after_first, node_row_fault, points_within}
use Rattle.tet_reader.proofs.points.point_rows.Goals as goal

pub returns-in-Err : goal.returns-in-Err
returns-in-Err c =
    let rows = c.args.rows.now.rows in
    let inside : c.loop-place.place < length (drop 1 rows) = omega (arith, c.loop-place-test.true, c.len-place-end.ensures, length-drop 1 rows) in
    node_row_fault c.args.rows.now.last_line rows c.args.header c.args.first c.loop-place.place c.in-Err.what c.line-line.result c.fault_with_count-fault.result
    c.requires.heads c.requires.first inside c.loop-place.invariant.pass c.in-Err.ensures c.line-line.ensures c.fault_with_count-fault.ensures

pub loop-place-preserved : goal.loop-place-preserved
loop-place-preserved c =
    let rows = drop 1 c.args.rows.now.rows in
    let h = c.args.header in
    let tests = point_tests h.points h.attributes h.markers c.args.first in
    let IsRow = IsPointRow h.attributes h.markers in
    let place = c.loop-place.place in
    let inside : place < length rows =
    omega (arith, c.loop-place-test.true, c.len-place-end.ensures, length-drop 1 c.args.rows.now.rows) in
    let row = after_first c.args.rows.now.rows place c.requires.heads.0 in
    row_read tests IsRow c.args.first rows c.loop-place.points c.push.new.self place c.in-Ok.point inside c.loop-place.invariant
    (ap (λ r. first_some (tests place r.words)) (sym row) ∙ c.in-Ok.ensures.0)
    (subst (λ r. IsRow (c.args.first + place) r.words c.in-Ok.point) row c.in-Ok.ensures.1) c.in_ok-push-in-Ok.ensures.ok

pub returns : goal.returns
returns c =
    let rows = drop 1 c.args.rows.now.rows in
    let h = c.args.header in
    let all = all_rows_read (point_tests h.points h.attributes h.markers c.args.first) (IsPointRow h.attributes h.markers) c.args.first rows c.loop-place.points
    c.loop-place.place c.loop-place.invariant (omega (arith, c.loop-place-test.false, c.len-place-end.ensures, length-drop 1 c.args.rows.now.rows)) in
    (all.1, points_within rows h c.args.first all.0)
