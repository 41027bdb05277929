-- The first cell that no mesh may have. Private functions' contracts cite it.
use Rattle.std.specs.Prelude.{ℕ, ◌+◌, Bool, true, false, Option, Some, None, List, [], ◌∷◌}
use Rattle.std.specs.Option.{option_map}
use Rattle.liszt_base.specs.Corners.{along, repeats_earlier, is_third}
use Rattle.liszt_base.specs.declared.answers.MeshWhat.{MeshWhat}
use Rattle.liszt_base.specs.declared.answers.MeshWhat.TheVariants.{CellTwice, FaceShared}
use Rattle.tet_reader.specs.Tests.{first_some}
use Rattle.tet_reader.specs.declared.misfit.Misfit.{Misfit}

-- The index of the first test that is true, counted from `place`.
abbrev pub first_true : ℕ → List Bool → Option ℕ
first_true place [] = None
first_true place (true ∷ tests) = Some place
first_true place (false ∷ tests) = first_true (place + 1) tests

-- A cell by its index and its fault.
abbrev pub misfit : MeshWhat → ℕ → Misfit
misfit what place = record { place = place; what = what }

-- The first cell that repeats an earlier one, or else the first that is the third with some face.
abbrev pub first_misfit : List (List ℕ) → Option Misfit
first_misfit cells = first_some
    (option_map (misfit CellTwice) (first_true 0 (along repeats_earlier [] cells))
    ∷ option_map (misfit FaceShared) (first_true 0 (along is_third [] cells)) ∷ [])
