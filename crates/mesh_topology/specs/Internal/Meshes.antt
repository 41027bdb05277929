-- The meshes of the worked cases. This project's own.
use Rattle.std.specs.Prelude.{ℕ, [], ◌∷◌, pos, replicate}
use Rattle.liszt_base.specs.MeshLists.{MeshLists}
use Rattle.liszt_base.specs.declared.mesh.Point.{Point}
use Rattle.liszt_base.specs.declared.mesh.RawCell.{RawCell}

-- the numbering of elements depends on the number of points, and on nothing else of them
abbrev pub some_point : Point
some_point = record { x = pos 0; y = pos 0; z = pos 0; mark = pos 0 }

abbrev pub cell : ℕ → ℕ → ℕ → ℕ → RawCell
cell a b c d = record { corners = a ∷ b ∷ c ∷ d ∷ []; region = pos 0 }

abbrev pub one_cell : MeshLists
one_cell = record { points = replicate 4 some_point; cells = cell 0 1 2 3 ∷ []; base = 1 }

-- a cell whose line is not ascending, and a point that no cell has
abbrev pub one_reversed : MeshLists
one_reversed = record { points = replicate 5 some_point; cells = cell 1 0 2 3 ∷ []; base = 0 }

abbrev pub two_cells : MeshLists
two_cells =
    record { points = replicate 5 some_point; cells = cell 0 1 2 3 ∷ cell 1 2 3 4 ∷ []; base = 0 }

-- two cells that share an edge and no face
abbrev pub two_at_an_edge : MeshLists
two_at_an_edge =
    record { points = replicate 6 some_point; cells = cell 0 1 2 3 ∷ cell 0 1 4 5 ∷ []; base = 0 }
