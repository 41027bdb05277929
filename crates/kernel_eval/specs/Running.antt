-- Locals of a checked program, and its iterations over a store of words. This project's own.
use Rattle.std.specs.Prelude.{◌≡◌, ◌<◌, ◌≤◌, ℕ, Some, List, length, slice_get, get_or, ℤ, pos, Ok}
use Rattle.liszt_base.specs.MeshLists.{MeshLists}
use Rattle.liszt_base.specs.Reductions.{identity_of}
use Rattle.liszt_base.specs.declared.accesses.Mode.TheVariants.{Read, Reduce}
use Rattle.liszt_base.specs.declared.answers.RunEnd.{RunEnd}
use Rattle.liszt_base.specs.declared.elements.Op.{Op}
use Rattle.liszt_tree.specs.Tree.{Main}
use Rattle.mesh_topology.specs.Elements.{count}
use Rattle.resolved_code.specs.declared.items.ComprehensionCode.{ComprehensionCode}
use Rattle.phase_types.specs.Checked.{checked_mode, checked_program}
use Rattle.phase_types.specs.declared.state.CheckedProgram.{CheckedProgram}
use Rattle.phase_types.specs.Environments.{Comprehension, comprehension_of}
use Rattle.phase_types.specs.Typed.{ComprehensionFits}
use Rattle.phase_types.specs.Walk.{OfScalar, mode_in}
use Rattle.code_eval.specs.Stores.{StoreView, Admits, HasActed}
use Rattle.code_eval.specs.declared.activation.Activation.{Activation}
use Rattle.kernel_eval.specs.Fits.{StateFits}
use Rattle.kernel_eval.specs.Iterations.{acts, iteration, iteration_end, partials_after}
use Rattle.kernel_eval.specs.States.{State, scalar_value}

-- AN ACTIVATION IS PREPARED for a checked program: it has the slots of each comprehension, and a number and a partial for each scalar.
pub record IsPrepared (checked : CheckedProgram) (a : Activation) : Type 0 where
  pub numbers : (k : ℕ) (code : ComprehensionCode) → slice_get checked.comprehensions k ≡ Some code → code.numbers ≤ length a.numbers
  pub elements : (k : ℕ) (code : ComprehensionCode) → slice_get checked.comprehensions k ≡ Some code
      → length code.elements ≤ length a.elements
  pub room : 0 < length a.elements
  pub scalars : length a.scalars ≡ length checked.scalars
  pub partials : length a.partials ≡ length checked.scalars

-- the partial of each scalar that a comprehension reduces is the identity of its operator there
abbrev pub HasIdentities : CheckedProgram → ℕ → List ℤ → Type 0
HasIdentities checked k partials =
    (scalar : ℕ) (op : Op) → scalar < length checked.scalars → checked_mode checked k (OfScalar scalar) ≡ Some (Reduce op)
    → get_or partials scalar (pos 0) ≡ identity_of op

-- IT HAS BEGUN a comprehension: it has these scalars, and the identities as partials.
pub record HasBegun (checked : CheckedProgram) (k : ℕ) (scalars : List ℤ) (a : Activation) : Type 0 where
  pub scalars_are : a.scalars ≡ scalars
  pub partials_are : HasIdentities checked k a.partials

-- AN ITERATION CAN RUN from a state of a tree of which the program is checked: the state fits, the activation has the scalars that
-- the comprehension reads, and the store admits the acts.
pub record CanIterate (checked : CheckedProgram) (k : ℕ) (mesh : MeshLists) (turns id : ℕ) (a : Activation) (store : StoreView)
    : Type 0 where
  pub program : Main
  pub is_checked : checked_program program ≡ Ok checked
  pub comprehension : Comprehension
  pub is : comprehension_of program k ≡ Some comprehension
  pub typed : ComprehensionFits comprehension
  pub state : State
  pub fits : StateFits mesh comprehension.environment state
  pub scalars : (scalar : ℕ) (value : ℤ) → mode_in comprehension (OfScalar scalar) ≡ Some Read → scalar_value state scalar ≡ Some value
      → get_or a.scalars scalar (pos 0) ≡ value
  pub below : id < count mesh comprehension.over
  pub admits : Admits store (acts mesh comprehension turns state id)

-- IT HAS RUN: it ended as the tree's iteration from the state does, the store has done its acts, and its reductions of scalars are
-- folded into the partials; also if it trapped.
pub record HasIterated (mesh : MeshLists) (c : Comprehension) (turns : ℕ) (s : State) (id : ℕ) (a : Activation) (store : StoreView) (end : RunEnd)
    (after : Activation) (later : StoreView) : Type 0 where
  pub ended : iteration_end mesh c turns s id ≡ Some end
  pub acted : HasActed (acts mesh c turns s id) store later
  pub partials : after.partials ≡ partials_after a.partials (iteration mesh c turns s id).after.folds
  pub scalars : after.scalars ≡ a.scalars
