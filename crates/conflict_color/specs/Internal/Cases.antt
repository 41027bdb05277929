-- Lists for worked cases. This project's own.
use Rattle.std.specs.Prelude.{ℕ, List, [], ◌∷◌}

-- The two vertices of each edge of a tetrahedron.
abbrev pub tetrahedron_edges : List (List ℕ)
tetrahedron_edges =
    (0 ∷ 1 ∷ []) ∷ (0 ∷ 2 ∷ []) ∷ (0 ∷ 3 ∷ []) ∷ (1 ∷ 2 ∷ []) ∷ (1 ∷ 3 ∷ []) ∷ (2 ∷ 3 ∷ []) ∷ []
