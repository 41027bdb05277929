-- The iterations of resolved code: the activation and the values with which one begins, and what its execution does. This project's own.
use Rattle.std.specs.Prelude.{◌≡◌, ◌≤◌, ℕ, false, Some, None, length, get_or, ℤ, pos}
use Rattle.liszt_base.specs.MeshLists.{MeshLists}
use Rattle.liszt_base.specs.declared.accesses.Mode.TheVariants.{Read}
use Rattle.liszt_base.specs.declared.accesses.Spot.{Spot}
use Rattle.resolved_code.specs.declared.items.ComprehensionCode.{ComprehensionCode}
use Rattle.topo_operators.specs.Operators.{unflipped}
use Rattle.phase_types.specs.Environments.{Comprehension, is_built_in}
use Rattle.phase_types.specs.Walk.{OfField, OfScalar, mode_in}
use Rattle.code_eval.specs.declared.activation.Activation.{Activation}
use Rattle.code_eval.specs.Executions.{Executed, Done}
use Rattle.kernel_eval.specs.Iterations.{acts, iteration, iteration_end, end_of, partials_after}
use Rattle.kernel_eval.specs.States.{State, value_in, scalar_value}

-- AN ACTIVATION IS READY for an iteration from a state: it has the slots of the code, the element in the first one, the turns, and the
-- scalars that the comprehension reads. The other slots hold anything.
pub record IsReady (code : ComprehensionCode) (c : Comprehension) (turns : ℕ) (s : State) (id : ℕ) (a : Activation) : Type 0 where
  pub numbers : code.numbers ≤ length a.numbers
  pub elements : length code.elements ≤ length a.elements
  pub first : get_or a.elements 0 None ≡ Some (unflipped c.over id)
  pub elem : a.elem ≡ unflipped c.over id
  pub turns_are : a.turns ≡ turns
  pub scalars : (scalar : ℕ) (value : ℤ) → mode_in c (OfScalar scalar) ≡ Some Read → scalar_value s scalar ≡ Some value
      → get_or a.scalars scalar (pos 0) ≡ value

-- values at spots are those of a state where the comprehension reads declared fields
pub record HasValues (c : Comprehension) (s : State) (values : Spot → ℤ) : Type 0 where
  pub read : (spot : Spot) (value : ℤ) → mode_in c (OfField spot.field) ≡ Some Read → is_built_in spot.field ≡ false
      → value_in s.fields spot ≡ Some value → values spot ≡ value

-- AN EXECUTION DOES AN ITERATION: it makes its acts, ends as it does, and folds its reductions of scalars into the partials. The
-- scalars and the numbers of slots stay.
pub record DoesIteration (mesh : MeshLists) (c : Comprehension) (turns : ℕ) (s : State) (id : ℕ) (a : Activation) (x : Executed Done)
    : Type 0 where
  pub acts : x.acts ≡ acts mesh c turns s id
  pub end : end_of x.answer ≡ iteration_end mesh c turns s id
  pub partials : x.after.partials ≡ partials_after a.partials (iteration mesh c turns s id).after.folds
  pub scalars : x.after.scalars ≡ a.scalars
  pub numbers : length x.after.numbers ≡ length a.numbers
  pub elements : length x.after.elements ≡ length a.elements
