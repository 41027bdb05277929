-- Sorted rows of a key and a cell index: the rows with a repeated key,
-- and the rows of parts of cells. Private functions' contracts cite it.
use Rattle.std.specs.Prelude.{◌≡◌, ℕ, ◌+◌, Bool, List, [], ◌∷◌, ◌++◌, map, drop}
use Rattle.std.specs.List.{filter, zip}
use Rattle.std.specs.List.Sorted.{IsPermutation, IsSorted}
use Rattle.std.specs.Ordering.{nat_cmp}
use Rattle.tet_reader.specs.declared.misfit.Row.{Row}

-- The cell indices of the rows whose key equals the one `back` rows earlier.
abbrev pub repeated_indices : {K : Type 0} → (K → K → Bool) → ℕ → List (Row K) → List ℕ
repeated_indices same back rows =
    map (λ pair. pair.1.place)
    (filter (λ pair. same pair.0.key pair.1.key) (zip rows (drop back rows)))

-- The pieces of cells, each with the index of its cell, counted
-- from `place`. A piece is some of the corners of a cell.
abbrev pub with_cell_index : ℕ → List (List (List ℕ)) → List (List ℕ × ℕ)
with_cell_index place [] = []
with_cell_index place (pieces ∷ cells) =
    map (λ piece. (piece, place)) pieces ++ with_cell_index (place + 1) cells

-- The corners of a cell as its only piece.
abbrev pub single_piece : List ℕ → List (List ℕ)
single_piece corners = corners ∷ []

-- The row of a piece has the corners of the piece in ascending order.
pub record IsRow (row : Row (List ℕ)) (piece : List ℕ × ℕ) : Type 0 where
  pub permuted : IsPermutation piece.0 row.key
  pub ordered : IsSorted nat_cmp row.key
  pub place_is : row.place ≡ piece.1
