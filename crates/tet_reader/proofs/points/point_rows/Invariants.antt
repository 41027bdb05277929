use Rattle.std.proofs.Common.{drop}
use Rattle.tet_reader.specs.Points.{IsPointRow}
use Rattle.tet_reader.proofs.RowReadingLemmas.{AreReadUpTo}
use Rattle.tet_reader.proofs.Lists.{point_tests}
use Rattle.tet_reader.proofs.points.point_rows.Given as goal

abbrev pub invariant-loop-place : goal.invariant-loop-place
invariant-loop-place l =
    AreReadUpTo (point_tests l.header.points l.header.attributes l.header.markers l.first) (IsPointRow l.header.attributes l.header.markers) l.first
    (drop 1 l.rows.rows) l.points l.place
