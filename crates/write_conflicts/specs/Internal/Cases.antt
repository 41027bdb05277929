-- Lists for worked cases. This project's own.
use Rattle.std.specs.Prelude.{ℕ, List, [], ◌∷◌}
use Rattle.liszt_base.specs.declared.accesses.Access.{Access}
use Rattle.liszt_base.specs.declared.accesses.Mode.{Mode}
use Rattle.liszt_base.specs.declared.accesses.Mode.TheVariants.{Read, Write, Reduce}
use Rattle.liszt_base.specs.declared.accesses.Spot.{Spot}
use Rattle.liszt_base.specs.declared.elements.Op.TheVariants.{Add, Max}

abbrev pub at : ℕ → ℕ → Spot
at field id = record { field = field; id = id }

abbrev access : Mode → ℕ → ℕ → Access
access mode field id = record { spot = at field id; mode = mode }

-- Three iterations of which two reduce a spot that the other one reads.
abbrev pub reducing_lists : List (List Access)
reducing_lists =
    (access (Reduce Add) 1 5 ∷ access Write 0 9 ∷ [])
    ∷ (access Read 1 5 ∷ access Write 1 9 ∷ [])
    ∷ (access (Reduce Max) 0 5 ∷ access (Reduce Max) 1 5 ∷ []) ∷ []

-- Four iterations that write two spots, one of them twice in one iteration.
abbrev pub writing_lists : List (List Access)
writing_lists =
    (access Write 1 2 ∷ access Write 0 4 ∷ [])
    ∷ (access Write 1 2 ∷ access Write 1 2 ∷ [])
    ∷ (access Write 0 4 ∷ [])
    ∷ (access Write 0 4 ∷ []) ∷ []
