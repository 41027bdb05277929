-- What the readers answer. This project's own.
use Rattle.std.specs.Prelude.{◌≡◌, None, Some, Option, List, ℕ, map, length, Result, Ok, Err}
use Rattle.liszt_base.specs.Corners.{IsMesh}
use Rattle.liszt_base.specs.MeshLists.{MeshLists}
use Rattle.liszt_base.specs.declared.answers.MeshFault.{MeshFault}
use Rattle.liszt_base.specs.declared.answers.Refused.{Refused}
use Rattle.liszt_base.specs.declared.answers.Refused.TheVariants.{Fault, NoMemory as OutOfMemory}
use Rattle.liszt_base.specs.declared.mesh.PointTable.{PointTable}
use Rattle.text_scan.specs.Rows.{TextRows, text_rows}
use Rattle.tet_reader.specs.Points.{Points, Cells}

-- The answer of a reader: where there is no fault, a value that is
-- spelled; otherwise the first fault. Out of memory is always allowed.
abbrev pub Reads : {A : Type 0} → (A → Type 0) → Option MeshFault → Result A (Refused MeshFault)
    → Type 0
Reads Spelled fault (Ok value) = (fault ≡ None) × Spelled value
Reads Spelled fault (Err (Fault found)) = fault ≡ Some found
Reads Spelled fault (Err OutOfMemory) = Unit {0}

-- The rows of a node file spell this table.
abbrev pub SpellTable : TextRows → PointTable → Type 0
SpellTable node table = Points node.rows table.base table.list

-- The rows of an ele file spell the cells of this mesh over
-- these points, and the points and cells make a mesh.
pub record SpellMesh (table : PointTable) (ele : TextRows) (mesh : MeshLists) : Type 0 where
  pub points_are : mesh.points ≡ table.list
  pub base_is : mesh.base ≡ table.base
  pub cells : Cells ele.rows table.list table.base mesh.cells
  pub fits : IsMesh (length table.list) (map (λ cell. cell.corners) mesh.cells)

-- A node file and an ele file spell this mesh.
abbrev pub SpelledBy : List ℕ → List ℕ → MeshLists → Type 0
SpelledBy node ele mesh =
    (table : PointTable) × SpellTable (text_rows node) table × SpellMesh table (text_rows ele) mesh
