-- What a sequential run has of a comprehension before, during and after its iterations. Private functions' contracts cite it.
use Rattle.std.specs.Prelude.{◌≡◌, ◌<◌, ◌≤◌, ℕ, Some, ℤ, pos, List, length, get_or, slice_get, Option, Ok}
use Rattle.std.specs.List.{fold as fold_list}
use Rattle.liszt_base.specs.MeshLists.{MeshLists}
use Rattle.liszt_base.specs.Reductions.{InRange, fold, identity_of}
use Rattle.liszt_base.specs.declared.accesses.Mode.{Mode}
use Rattle.liszt_base.specs.declared.accesses.Mode.TheVariants.{Read, Reduce}
use Rattle.liszt_base.specs.declared.answers.RunEnd.{RunEnd}
use Rattle.liszt_base.specs.declared.answers.RunEnd.TheVariants.{Done as IsDone}
use Rattle.liszt_tree.specs.Tree.{Main}
use Rattle.mesh_topology.specs.Elements.{count, numbers}
use Rattle.phase_types.specs.Checked.{checked_mode, checked_program}
use Rattle.phase_types.specs.declared.state.CheckedProgram.{CheckedProgram}
use Rattle.phase_types.specs.Environments.{Comprehension, comprehension_of}
use Rattle.phase_types.specs.Walk.{OfScalar, mode_in}
use Rattle.code_eval.specs.declared.activation.Activation.{Activation}
use Rattle.kernel_eval.specs.Fits.{StateFits}
use Rattle.kernel_eval.specs.HeldFields.{HoldsFields, HoldsScalars}
use Rattle.kernel_eval.specs.Iterations.{end_of}
use Rattle.kernel_eval.specs.Running.{HasIdentities}
use Rattle.kernel_eval.specs.States.{State, scalar_value}
use Rattle.seq_meaning.specs.FieldStores.{StoreWords, view_of}
use Rattle.seq_meaning.specs.Runs.{comprehension, iterations}
use Rattle.seq_meaning.specs.declared.seq_store.SeqStore.{SeqStore}

-- A COMPREHENSION CAN RUN from a state of a tree of which the program is checked: the state fits, the activation has its scalars and
-- the identities as partials, and the store holds its fields.
pub record CanRunIterations (checked : CheckedProgram) (k : ℕ) (mesh : MeshLists) (a : Activation) (store : StoreWords) : Type 0 where
  pub program : Main
  pub is_checked : checked_program program ≡ Ok checked
  pub comprehension : Comprehension
  pub is : comprehension_of program k ≡ Some comprehension
  pub state : State
  pub fits : StateFits mesh comprehension.environment state
  pub scalars : HoldsScalars state a.scalars
  pub identities : HasIdentities checked k a.partials
  pub fields : HoldsFields state (view_of store)

-- A SCALAR AFTER ITERATIONS: one that is reduced is its value before folded with values, which the partial is from the identity on;
-- every other one is as before.
abbrev pub HasReduced : Option Mode → ℤ → ℤ → Option ℤ → Type 0
HasReduced (Some (Reduce op)) old partial value =
    (values : List ℤ) × (partial ≡ fold_list (fold op) (identity_of op) values) × (value ≡ Some (fold_list (fold op) old values))
HasReduced mode old partial value = value ≡ Some old

abbrev pub HaveReduced : Comprehension → State → List ℤ → State → Type 0
HaveReduced c s partials after =
    (scalar : ℕ) (old : ℤ) → scalar_value s scalar ≡ Some old
    → HasReduced (mode_in c (OfScalar scalar)) old (get_or partials scalar (pos 0)) (scalar_value after scalar)

-- THE ITERATIONS from an id on remain, from a state: they make the rest of the comprehension from the state at its start.
pub record IsIterating (mesh : MeshLists) (c : Comprehension) (turns : ℕ) (s : State) (id : ℕ) (a : Activation) (store : StoreWords)
    : Type 0 where
  pub state : State
  pub rest : iterations mesh c turns (numbers id (count mesh c.over)) state ≡ comprehension mesh c turns s
  pub fits : StateFits mesh c.environment state
  pub fields : HoldsFields state (view_of store)
  pub read : (scalar : ℕ) (value : ℤ) → mode_in c (OfScalar scalar) ≡ Some Read → scalar_value state scalar ≡ Some value
      → get_or a.scalars scalar (pos 0) ≡ value
  pub reduced : HaveReduced c s a.partials state

-- THEY HAVE RUN, up to the end or the first trap.
pub record HasRunIterations (mesh : MeshLists) (c : Comprehension) (turns : ℕ) (s : State) (end : RunEnd) (a : Activation) (store : StoreWords)
    : Type 0 where
  pub ended : end_of (comprehension mesh c turns s).answer ≡ Some end
  pub fields : HoldsFields (comprehension mesh c turns s).after (view_of store)
  pub reduced : HaveReduced c s a.partials (comprehension mesh c turns s).after

-- A COMPREHENSION CAN RUN in a store that holds the scalars and fields of a state, and has run there: if it is done, the store holds
-- those of the state after it. No other part of the run of the main program is changed.
pub record CanRunComprehension (checked : CheckedProgram) (k : ℕ) (mesh : MeshLists) (store : SeqStore) : Type 0 where
  pub program : Main
  pub is_checked : checked_program program ≡ Ok checked
  pub comprehension : Comprehension
  pub is : comprehension_of program k ≡ Some comprehension
  pub state : State
  pub fits : StateFits mesh comprehension.environment state
  pub scalars : HoldsScalars state store.main.scalars
  pub fields : HoldsFields state (view_of store.fields)

pub record HasRunComprehension (mesh : MeshLists) (c : Comprehension) (turns : ℕ) (s : State) (end : RunEnd) (store after : SeqStore)
    : Type 0 where
  pub ended : end_of (comprehension mesh c turns s).answer ≡ Some end
  pub main : after.main ≡ record store.main { scalars = after.main.scalars }
  pub count : length after.main.scalars ≡ length store.main.scalars
  pub scalars : end ≡ IsDone → HoldsScalars (comprehension mesh c turns s).after after.main.scalars
  pub fields : end ≡ IsDone → HoldsFields (comprehension mesh c turns s).after (view_of after.fields)

-- the value of a scalar after a comprehension, by its mode
abbrev pub value_after : Option Mode → ℤ → ℤ → ℤ
value_after (Some (Reduce op)) old partial = fold op old partial
value_after mode old partial = old

pub record AreReduced (checked : CheckedProgram) (k : ℕ) (partials old new : List ℤ) : Type 0 where
  pub count : length new ≡ length old
  pub in_range : (scalar : ℕ) (value : ℤ) → slice_get old scalar ≡ Some value → InRange value
  pub values : (scalar : ℕ) (value : ℤ) → slice_get old scalar ≡ Some value
      → slice_get new scalar ≡ Some (value_after (checked_mode checked k (OfScalar scalar)) value (get_or partials scalar (pos 0)))

-- the scalars below a bound are reduced so far
pub record AreReducedBelow (checked : CheckedProgram) (k : ℕ) (partials old new : List ℤ) (bound : ℕ) : Type 0 where
  pub count : length new ≡ length old
  pub in_range : (scalar : ℕ) (value : ℤ) → slice_get old scalar ≡ Some value → scalar < bound → InRange value
  pub values : (scalar : ℕ) (value : ℤ) → slice_get old scalar ≡ Some value → scalar < bound
      → slice_get new scalar ≡ Some (value_after (checked_mode checked k (OfScalar scalar)) value (get_or partials scalar (pos 0)))
  pub rest : (scalar : ℕ) → bound ≤ scalar → slice_get new scalar ≡ slice_get old scalar
