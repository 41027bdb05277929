-- The states that fit an environment. This project's own.
use Rattle.std.specs.Prelude.{◌≡◌, ℕ, ◌<◌, ◌⊎◌, true, false, is_some, Some, List, length}
use Rattle.std.specs.Option.{option_map}
use Rattle.liszt_base.specs.MeshLists.{MeshLists}
use Rattle.liszt_base.specs.declared.elements.Kind.{Kind}
use Rattle.liszt_base.specs.declared.elements.Kind.TheVariants.{Vertex, Cell}
use Rattle.mesh_topology.specs.Elements.{count}
use Rattle.phase_types.specs.Environments.{Environment, Binding, FieldName, ScalarName, binding_of, is_built_in}
use Rattle.kernel_eval.specs.Preservation.{field_values}
use Rattle.kernel_eval.specs.States.{State, scalar_value}

-- a built-in field and the kind of its elements
abbrev pub IsBuiltIn : ℕ → Kind → Type 0
IsBuiltIn number kind = ((number < 4) × (kind ≡ Vertex)) ⊎ ((number ≡ 4) × (kind ≡ Cell))

-- a declared field with a value for each element of its kind
abbrev pub IsLive : MeshLists → State → ℕ → Kind → Type 0
IsLive mesh s number kind = (is_built_in number ≡ false) × (option_map (λ values. length values) (field_values s number) ≡ Some (count mesh kind))

-- A STATE FITS a binding of the main program: a scalar has a value, a field is built in or live. Local numbers and elements are no
-- bindings of the main program.
abbrev pub EntryFits : MeshLists → State → Binding → Type 0
EntryFits mesh s (ScalarName number) = is_some (scalar_value s number) ≡ true
EntryFits mesh s (FieldName number kind) = IsBuiltIn number kind ⊎ IsLive mesh s number kind
EntryFits mesh s _ = ⊥

pub record StateFits (mesh : MeshLists) (environment : Environment) (s : State) : Type 0 where
  pub entry_fits : (name : List ℕ) (entry : Binding) → binding_of environment name ≡ Some entry → EntryFits mesh s entry
