-- What the path of a run has: later paths extend earlier ones, and its entries fit the program. This project's own.
use Rattle.std.specs.Prelude.{◌≡◌, ℕ, ◌<◌, Some, List, [], ◌∷◌, ◌++◌}
use Rattle.liszt_base.specs.MeshLists.{MeshLists}
use Rattle.liszt_tree.specs.Tree.{Main}
use Rattle.phase_types.specs.Environments.{Comprehension, comprehension_of}
use Rattle.kernel_eval.specs.Fits.{StateFits}
use Rattle.kernel_eval.specs.States.{Fields}
use Rattle.seq_meaning.specs.Runs.{ComprehensionReached, Entry}

-- A PATH EXTENDS an earlier one: it has further entries after those of the earlier one.
pub record Extends (earlier later : List Entry) : Type 0 where
  pub more : List Entry
  pub is : later ≡ earlier ++ more

-- THE NUMBERS OF LIVE FIELDS DESCEND: each is greater than all later ones. So no two are equal, and the latest declaration is first.
abbrev pub DescendBelow : ℕ → Fields → Type 0
DescendBelow bound [] = Unit {0}
DescendBelow bound (field ∷ fields) = (field.0 < bound) × DescendBelow field.0 fields

abbrev pub DescendingFields : Fields → Type 0
DescendingFields [] = Unit {0}
DescendingFields (field ∷ fields) = DescendBelow field.0 fields

-- ENTRIES OF A PATH FIT the program: the numbers of the live fields descend, and before a comprehension the state fits the environment
-- at its site.
pub record EntryFits (mesh : MeshLists) (program : Main) (entry : Entry) : Type 0 where
  pub fields : DescendingFields entry.state.fields
  pub phase : (k : ℕ) → entry.event ≡ ComprehensionReached k
      → (c : Comprehension) × (comprehension_of program k ≡ Some c) × StateFits mesh c.environment entry.state
