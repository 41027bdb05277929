use Rattle.std.proofs.Common.{drop}
use Rattle.tet_reader.specs.Points.{IsCellRow}
use Rattle.tet_reader.proofs.Forms.{cell_form}
use Rattle.tet_reader.proofs.RowReadingLemmas.{AreReadUpTo}
use Rattle.tet_reader.proofs.Lists.{cell_tests}
use Rattle.tet_reader.proofs.cells.cell_rows.Given as goal

abbrev pub invariant-loop-place : goal.invariant-loop-place
invariant-loop-place l =
    AreReadUpTo (cell_tests l.header.cells l.header.attributes l.points l.base l.first) (IsCellRow (cell_form l.header.attributes l.points l.base))
    l.first (drop 1 l.rows.rows) l.cells l.place
