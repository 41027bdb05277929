-- Why the order of iterations does not matter: what an iteration does depends only on what its comprehension reads, which no iteration
-- changes. This project's own.
use Rattle.std.specs.Prelude.{◌≡◌, ◌<◌, ℕ, ℤ, Ok, Some, List, length}
use Rattle.std.specs.List.{Contains, filter_map, flat_map}
use Rattle.liszt_base.specs.Corners.{IsMesh}
use Rattle.liszt_base.specs.MeshLists.{MeshLists}
use Rattle.liszt_base.specs.Reductions.{InRange}
use Rattle.liszt_base.specs.declared.accesses.Mode.TheVariants.{Read, Write}
use Rattle.liszt_base.specs.declared.accesses.Spot.{Spot}
use Rattle.liszt_base.specs.declared.answers.RunEnd.TheVariants.{Done as IsDone}
use Rattle.liszt_tree.specs.Tree.{Main}
use Rattle.mesh_topology.specs.Elements.{corner_lists, count}
use Rattle.phase_types.specs.Checked.{checked_program}
use Rattle.phase_types.specs.declared.state.CheckedProgram.{CheckedProgram}
use Rattle.phase_types.specs.Environments.{Comprehension, comprehension_of}
use Rattle.phase_types.specs.Walk.{OfField, OfScalar, mode_in}
use Rattle.kernel_eval.specs.Fits.{StateFits}
use Rattle.kernel_eval.specs.Iterations.{acts, iteration_end, partial}
use Rattle.kernel_eval.specs.Preservation.{field_values}
use Rattle.kernel_eval.specs.States.{Act, State, field_lengths, known_scalars, scalar_value}
use Rattle.stencil_infer.specs.Stencils.{iteration_accesses}

-- A CLASH of two different iterations is a spot that is written in the stencils of both.
pub record Clash (mesh : MeshLists) (c : Comprehension) (i j : ℕ) : Type 0 where
  pub differ : i ≡ j → ⊥
  pub spot : Spot
  pub in_first : Contains (iteration_accesses mesh c i) (record { spot = spot; mode = Write })
  pub in_second : Contains (iteration_accesses mesh c j) (record { spot = spot; mode = Write })

-- no two iterations clash
abbrev pub HasNoClash : MeshLists → Comprehension → Type 0
HasNoClash mesh c = (i j : ℕ) → i < count mesh c.over → j < count mesh c.over → Clash mesh c i j → ⊥

-- A COMPREHENSION CAN RUN from a state: it is that of a checked program, over a mesh; the state fits its names, and its scalars are
-- numbers of 64 bits.
pub record CanRunFrom (program : Main) (k : ℕ) (c : Comprehension) (mesh : MeshLists) (s : State) : Type 0 where
  pub checked : CheckedProgram
  pub is_checked : checked_program program ≡ Ok checked
  pub is : comprehension_of program k ≡ Some c
  pub mesh_is : IsMesh (length mesh.points) (corner_lists mesh)
  pub fits : StateFits mesh c.environment s
  pub in_range : (scalar : ℕ) (value : ℤ) → scalar_value s scalar ≡ Some value → InRange value

-- the ids are those of iterations
abbrev pub AreIterations : MeshLists → Comprehension → List ℕ → Type 0
AreIterations mesh c ids = (id : ℕ) → Contains ids id → id < count mesh c.over

-- TWO STATES AGREE FOR A COMPREHENSION: they have the same live fields and the same scalars, and the same values of those that it reads.
pub record AgreeFor (c : Comprehension) (s t : State) : Type 0 where
  pub fields : field_lengths t ≡ field_lengths s
  pub scalars : known_scalars t ≡ known_scalars s
  pub values : (field : ℕ) → mode_in c (OfField field) ≡ Some Read → field_values t field ≡ field_values s field
  pub scalar_values : (scalar : ℕ) → mode_in c (OfScalar scalar) ≡ Some Read → scalar_value t scalar ≡ scalar_value s scalar

-- An iteration does the same from both: its end, its acts and its partials are the same.
pub record DoesTheSame (mesh : MeshLists) (c : Comprehension) (turns : ℕ) (s t : State) (id : ℕ) : Type 0 where
  pub end : iteration_end mesh c turns t id ≡ iteration_end mesh c turns s id
  pub acts : acts mesh c turns t id ≡ acts mesh c turns s id
  pub partials : (scalar : ℕ) → partial mesh c turns t id scalar ≡ partial mesh c turns s id scalar

-- WHAT ITERATIONS DO from one and the same state: their acts, and their partials of a scalar, one iteration after the other
abbrev pub acts_of : MeshLists → Comprehension → ℕ → State → List ℕ → List Act
acts_of mesh c turns s ids = flat_map (acts mesh c turns s) ids

abbrev pub partials_of : MeshLists → Comprehension → ℕ → State → ℕ → List ℕ → List ℤ
partials_of mesh c turns s scalar ids = filter_map (λ id. partial mesh c turns s id scalar) ids

-- each of them ends without a trap
abbrev pub AreDone : MeshLists → Comprehension → ℕ → State → List ℕ → Type 0
AreDone mesh c turns s ids = (id : ℕ) → Contains ids id → iteration_end mesh c turns s id ≡ Some IsDone
