use Rattle.std.proofs.Common.{◌+◌}
use Rattle.text_scan.specs.Rows.{row_at}
use Rattle.tet_reader.proofs.PointRows.{point_read, point_count}
use Rattle.tet_reader.proofs.points.point_row.Goals as goal

pub point_of-requires-clause-words : goal.point_of-requires-clause-words
point_of-requires-clause-words c =
    point_count c.args.header.points c.args.place c.args.header.attributes c.args.header.markers (c.args.first + c.args.place)
    (row_at c.args.rows.now.rows (c.args.place + 1)).words c.read_row.new.numbers c.in-Ok.ensures.0 c.in-Ok.ensures.1

pub returns-in-Ok : goal.returns-in-Ok
returns-in-Ok c =
    let h = point_read c.args.header.points c.args.place c.args.header.attributes c.args.header.markers (c.args.first + c.args.place)
    (row_at c.args.rows.now.rows (c.args.place + 1)).words c.read_row.new.numbers c.in-Ok.ensures.0 c.in-Ok.ensures.1 in
    (c.in-Ok.ensures.0, rw c.point_of.ensures h)
