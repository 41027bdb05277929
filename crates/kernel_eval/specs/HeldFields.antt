-- Stores that hold the fields of a state. This project's own.
use Rattle.std.specs.Prelude.{◌≡◌, ◌<◌, ℕ, ◌+◌, true, Some, List, slice_get, ℤ}
use Rattle.liszt_base.specs.MeshLists.{MeshLists}
use Rattle.liszt_base.specs.declared.accesses.Spot.{Spot}
use Rattle.mesh_topology.specs.Elements.{count}
use Rattle.phase_types.specs.declared.info.FieldInfo.{FieldInfo}
use Rattle.phase_types.specs.Environments.{first_declared}
use Rattle.code_eval.specs.Stores.{StoreView}
use Rattle.kernel_eval.specs.States.{State, scalar_value, value_in}

-- a spot that may be loaded and stored, and its value
pub record HoldsAt (store : StoreView) (spot : Spot) (value : ℤ) : Type 0 where
  pub value_is : store.values spot ≡ value
  pub loadable : store.loadable spot ≡ true
  pub storable : store.storable spot ≡ true

-- A STORE HOLDS THE FIELDS OF A STATE: at each element of each live field it has the state's value.
pub record HoldsFields (s : State) (store : StoreView) : Type 0 where
  pub holds : (spot : Spot) (value : ℤ) → value_in s.fields spot ≡ Some value → HoldsAt store spot value

-- numbers are those of a state's scalars, by the numbers of the scalars
pub record HoldsScalars (s : State) (scalars : List ℤ) : Type 0 where
  pub holds : (scalar : ℕ) (value : ℤ) → scalar_value s scalar ≡ Some value → slice_get scalars scalar ≡ Some value

-- A STORE HAS ROOM FOR FIELDS: each element of each declared field may be loaded and stored.
pub record HasRoomFor (fields : List FieldInfo) (mesh : MeshLists) (store : StoreView) : Type 0 where
  pub loadable : (index : ℕ) (info : FieldInfo) (id : ℕ) → slice_get fields index ≡ Some info → id < count mesh info.kind
      → store.loadable (record { field = first_declared + index; id = id }) ≡ true
  pub storable : (index : ℕ) (info : FieldInfo) (id : ℕ) → slice_get fields index ≡ Some info → id < count mesh info.kind
      → store.storable (record { field = first_declared + index; id = id }) ≡ true
