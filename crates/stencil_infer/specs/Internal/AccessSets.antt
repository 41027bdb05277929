-- Sets of accesses while they are gathered. This project's own.
use Rattle.std.specs.Prelude.{◌≡◌, ◌<◌, true, false, List, ◌++◌, length}
use Rattle.std.specs.List.{AllPairs, Contains}
use Rattle.liszt_base.specs.Limits.{entry_limit}
use Rattle.liszt_base.specs.declared.accesses.Access.{Access}
use Rattle.stencil_infer.specs.Stencils.{Precedes}
use Rattle.stencil_infer.specs.Internal.CodeAccesses.{Slots, Walk}
use Rattle.stencil_infer.specs.declared.access_set.AccessSet.{AccessSet}

-- each spot has one mode
abbrev pub HasOneMode : List Access → Type 0
HasOneMode past = (a b : Access) → Contains past a → Contains past b → a.spot ≡ b.spot → b ≡ a

pub record HasMembers (past items : List Access) : Type 0 where
  pub has_all : (a : Access) → Contains past a → Contains items a
  pub has_no_other : (a : Access) → Contains items a → Contains past a

-- more different accesses than all stencils may have together
pub record IsOverfull (past : List Access) : Type 0 where
  pub some : List Access
  pub many : entry_limit < length some
  pub ascending : AllPairs Precedes some
  pub within : (a : Access) → Contains some a → Contains past a

-- A SET HOLDS the accesses of a list, of which each spot has one mode, if it has the same members. A full set holds every list that has
-- too many.
pub record Holds (set : AccessSet) (past : List Access) : Type 0 where
  pub members : set.is_full ≡ false → HasOneMode past → HasMembers past set.items.items
  pub full : set.is_full ≡ true → HasOneMode past → IsOverfull past

-- A change ADDS accesses to what a set holds.
pub record Adds (accesses : List Access) (old new : AccessSet) : Type 0 where
  pub adds : (past : List Access) → Holds old past → Holds new (past ++ accesses)

-- a list of the same members, ascending
pub record IsOrdered (past items : List Access) : Type 0 where
  pub ascending : AllPairs Precedes items
  pub members : HasMembers past items

-- A walk HAS BEEN GATHERED: its accesses are added to a set, and the slots are as after it.
pub record HasGathered (walk : Walk) (slots : Slots) (old new : AccessSet) : Type 0 where
  pub adds : Adds walk.accesses old new
  pub slots_are : slots ≡ walk.slots
