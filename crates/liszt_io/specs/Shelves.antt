-- The meaning of a shelf: its files, the open file, and its faults. This project's own.
use Rattle.std.specs.Prelude.{◌≡◌, ℕ, ◌+◌, ◌-◌, ◌^◌, min, ◌<◌, ◌≤◌, ◌⊎◌, List, length, take, drop}
use Rattle.std.specs.Prelude.{Option, Some, None, IsSome, Result, Ok, Err}
use Rattle.std.specs.FinMap.{FinMap, get}
use Rattle.std.specs.Ordering.{nat_cmp}
use Rattle.std.specs.Cmp.Lexicographic.{slice_cmp}
use Rattle.liszt_io.specs.declared.outside.Failed.{Failed}
use Rattle.liszt_io.specs.Causes.{Rose}

-- Files by the bytes of their names.
abbrev pub Files : Type 0
Files = FinMap (slice_cmp nat_cmp) (List ℕ)

-- The bytes of the file of that name, if there is one.
abbrev pub file : Files → List ℕ → Option (List ℕ)
file files name = get files name

-- The name of the open file, and the place in its bytes.
abbrev pub Cursor : Type 0
Cursor = List ℕ × ℕ

abbrev pub no_cursor : Option Cursor
no_cursor = None

-- The faults of a shelf by kind. A stray is the fault of an `open_name` of
-- a name without a file, or of a `read` without an open file; `last` is
-- the name that was asked for or open at the last fault that is no stray.
pub record Tally : Type 0 where
  pub strays : ℕ
  pub others : ℕ
  pub last : Option (List ℕ)

abbrev pub no_faults : Tally
no_faults = record { strays = 0; others = 0; last = None }

-- The count of all faults, which stays at its last value.
abbrev pub all_faults : Tally → ℕ
all_faults tally = min (tally.strays + tally.others) (2 ^ 64 - 1)

-- One more stray.
pub record IsStray (before now : Tally) : Type 0 where
  pub strays : Rose before.strays now.strays
  pub others : now.others ≡ before.others
  pub last : now.last ≡ before.last

-- One more fault that is no stray, at that name.
pub record IsFaultAt (name : List ℕ) (before now : Tally) : Type 0 where
  pub strays : now.strays ≡ before.strays
  pub others : Rose before.others now.others
  pub last : now.last ≡ Some name

-- One more fault of an `open_name` of that name: a stray exactly where no file has it.
abbrev pub FailsAt : Files → List ℕ → Tally → Tally → Type 0
FailsAt files name before now =
    ((file files name ≡ None) × IsStray before now)
    ⊎ (IsSome (file files name) × IsFaultAt name before now)

-- What `open_name` does: it opens the file at its beginning, or leaves none open.
abbrev pub Opens : Files → List ℕ → Result Unit Failed → Option Cursor → Tally → Tally → Type 0
Opens files name (Ok _) cursor before now =
    IsSome (file files name) × (cursor ≡ Some (name, 0)) × (now ≡ before)
Opens files name (Err _) cursor before now = (cursor ≡ None) × FailsAt files name before now

-- The buffer begins with the `count` bytes at `place`; no byte for a nonempty buffer is the end.
pub record IsPiece (bytes : List ℕ) (place count : ℕ) (buffer : List ℕ) : Type 0 where
  pub inside : place + count ≤ length bytes
  pub piece : take count buffer ≡ take count (drop place bytes)
  pub ends : count ≡ 0 → 0 < length buffer → place ≡ length bytes

-- What `read` does where a file is open: it gives the next bytes and moves past
-- them, or fails and leaves the cursor. It does not fail for an empty buffer.
abbrev pub Reads : List ℕ → List ℕ → ℕ → Result ℕ Failed → List ℕ → Option Cursor → Tally → Tally
    → Type 0
Reads name bytes place (Ok count) buffer cursor before now =
    IsPiece bytes place count buffer × (cursor ≡ Some (name, place + count)) × (now ≡ before)
Reads name bytes place (Err _) buffer cursor before now =
    (cursor ≡ Some (name, place)) × IsFaultAt name before now × (0 < length buffer)

-- And where none is open: a stray.
abbrev pub ReadsWithoutCursor : Result ℕ Failed → Option Cursor → Tally → Tally → Type 0
ReadsWithoutCursor (Ok _) cursor before now = ⊥
ReadsWithoutCursor (Err _) cursor before now = (cursor ≡ None) × IsStray before now
