-- What holds of the parts of each checked program. This project's own.
use Rattle.std.specs.Prelude.{◌≡◌, ◌⊎◌, ◌<◌, ◌≤◌, ℕ, ◌+◌, true, Some, List, length, slice_get}
use Rattle.liszt_base.specs.declared.accesses.Mode.{Mode}
use Rattle.liszt_base.specs.declared.accesses.Mode.TheVariants.{Read, Write}
use Rattle.phase_types.specs.Checked.{CheckedProgram, checked_mode}
use Rattle.phase_types.specs.Environments.{first_declared, is_built_in}
use Rattle.phase_types.specs.Walk.{Subject, OfField, OfScalar}

-- THE MODES that a comprehension may have: it only reads a built-in field, and writes no scalar.
abbrev pub MayHaveMode : Subject → Mode → Type 0
MayHaveMode (OfField number) mode = is_built_in number ≡ true → mode ≡ Read
MayHaveMode (OfScalar number) mode = mode ≡ Write → ⊥

-- A FIELD OR SCALAR OF A PROGRAM, by the numbers of its declared fields and of its scalars; five fields are built in
abbrev pub IsSubjectOf : ℕ → ℕ → Subject → Type 0
IsSubjectOf fields scalars (OfField number) = (number < 5) ⊎ ((index : ℕ) × (number ≡ first_declared + index) × (index < fields))
IsSubjectOf fields scalars (OfScalar number) = number < scalars

-- the modes of all comprehensions
abbrev pub HasModesInRange : CheckedProgram → Type 0
HasModesInRange checked =
    (k : ℕ) (subject : Subject) (mode : Mode) → checked_mode checked k subject ≡ Some mode
    → IsSubjectOf (length checked.fields) (length checked.scalars) subject

abbrev pub HasAllowedModes : CheckedProgram → Type 0
HasAllowedModes checked = (k : ℕ) (subject : Subject) (mode : Mode) → checked_mode checked k subject ≡ Some mode → MayHaveMode subject mode

-- SCOPES: each but the outermost is enclosed by one of a lower number.
abbrev pub HasLowerParents : List ℕ → Type 0
HasLowerParents scopes = (k parent : ℕ) → slice_get scopes (k + 1) ≡ Some parent → parent ≤ k
