use Rattle.std.proofs.Common.{map, take}
use Rattle.std.specs.List.{AllZip}
use Rattle.liszt_base.specs.Corners.{induced_cycles}
use Rattle.tet_reader.specs.Internal.RepeatedRows.{with_cell_index, IsRow}
use Rattle.tet_reader.proofs.misfit.face_rows.Given as goal

abbrev pub invariant-loop-place : goal.invariant-loop-place
invariant-loop-place l = AllZip IsRow l.rows.items (with_cell_index 0 (map (λ cell. induced_cycles cell.corners) (take l.place l.cells)))
