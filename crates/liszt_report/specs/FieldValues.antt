-- The values of fields as a partial function. This project's own.
use Rattle.std.specs.Prelude.{◌≡◌, ℕ, ◌+◌, ◌<◌, ℤ, pos, Option, Some, IsSome, List, slice_get, unwrap_or}
use Rattle.liszt_base.specs.declared.elements.Kind.{Kind}
use Rattle.phase_types.specs.Environments.{first_declared}
use Rattle.phase_types.specs.declared.info.FieldInfo.{FieldInfo}

-- the value of each pair of a field and an id that has one
abbrev pub FieldValues : Type 0
FieldValues = ℕ → ℕ → Option ℤ

-- the value of a pair, and 0 for a pair that has none
abbrev pub value_at : FieldValues → ℕ → ℕ → ℤ
value_at values field id = unwrap_or (values field id) (pos 0)

-- Every field of the outermost scope has a value at each id.
abbrev pub HasOutermost : (Kind → ℕ) → List FieldInfo → FieldValues → Type 0
HasOutermost count fields values =
    (index id : ℕ) (info : FieldInfo) → slice_get fields index ≡ Some info → info.scope ≡ 0 → id < count info.kind
    → IsSome (values (first_declared + index) id)
