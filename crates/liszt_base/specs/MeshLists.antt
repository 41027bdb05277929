-- What contracts see of a mesh as its two files give it. This project's own.
use Rattle.std.specs.Prelude.{ℕ, List}
use Rattle.liszt_base.specs.declared.mesh.Point.{Point}
use Rattle.liszt_base.specs.declared.mesh.RawCell.{RawCell}

-- the points and the cells in the order of their lines, and the
-- number of the first point in its file, 0 where there is none
pub record MeshLists : Type 0 where
  pub points : List Point
  pub cells : List RawCell
  pub base : ℕ
