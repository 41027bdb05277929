use Rattle.std.proofs.Common.{map, take}
use Rattle.std.specs.List.{AllZip}
use Rattle.tet_reader.specs.Internal.RepeatedRows.{with_cell_index, single_piece, IsRow}
use Rattle.tet_reader.proofs.misfit.cell_rows.Given as goal

abbrev pub invariant-loop-place : goal.invariant-loop-place
invariant-loop-place l = AllZip IsRow l.rows.items (with_cell_index 0 (map (λ cell. single_piece cell.corners) (take l.place l.cells)))
