-- The iterations of a comprehension over its resolved code. This project's own.
use Rattle.std.specs.Prelude.{◌≡◌, ℕ, true, Option, Some, None, List, length, slice_get, nat_lt, if◌then◌else◌}
use Rattle.std.specs.List.{slice_set}
use Rattle.liszt_base.specs.MeshLists.{MeshLists}
use Rattle.resolved_code.specs.declared.items.ComprehensionCode.{ComprehensionCode}
use Rattle.topo_operators.specs.Operators.{unflipped}
use Rattle.phase_types.specs.Environments.{Comprehension}
use Rattle.phase_types.specs.Typed.{ComprehensionFits}
use Rattle.liszt_base.specs.declared.accesses.Access.{Access}
use Rattle.stencil_infer.specs.Stencils.{entries, iteration_accesses, iteration_visits}
use Rattle.stencil_infer.specs.Internal.CodeAccesses.{Slots, Walk, code_fits, code_walk}

-- the body fits the kinds of the slots, of which the first has that of the iterations' elements
pub record FitsSlots (code : ComprehensionCode) : Type 0 where
  pub body : code_fits code.elements code.body ≡ true
  pub first : slice_get code.elements 0 ≡ Some code.over

abbrev pub iteration_walk : MeshLists → ComprehensionCode → ℕ → Slots → Walk
iteration_walk mesh code id slots = code_walk mesh code.body (slice_set slots 0 (Some (unflipped code.over id)))

-- THE CODE OF A COMPREHENSION has its accesses and its visits, whatever is in the slots.
pub record IsCodeOf (mesh : MeshLists) (c : Comprehension) (code : ComprehensionCode) : Type 0 where
  pub typed : ComprehensionFits c
  pub over : c.over ≡ code.over
  pub accesses : (id : ℕ) (slots : Slots) → length slots ≡ length code.elements
      → (iteration_walk mesh code id slots).accesses ≡ iteration_accesses mesh c id
  pub visits : (id : ℕ) (slots : Slots) → length slots ≡ length code.elements
      → (iteration_walk mesh code id slots).visits ≡ iteration_visits mesh c id

-- lists that hold no more accesses than a limit
abbrev pub within : ℕ → List (List Access) → Option (List (List Access))
within limit lists = if nat_lt limit (entries lists) then None else Some lists
