-- A file read whole, up to a limit. This project's own.
use Rattle.std.specs.Prelude.{◌≡◌, ℕ, ◌<◌, ◌≤◌, List, length, Some, Result, Ok, Err}
use Rattle.liszt_io.specs.declared.outside.WholeFault.{WholeFault}
use Rattle.liszt_io.specs.declared.outside.WholeFault.TheVariants.{ReadFault, TooLong, NoMemory}
use Rattle.liszt_io.specs.Causes.{Rose}
use Rattle.liszt_io.specs.Shelves.{Files, file, Tally, FailsAt}

-- The result and the shelf's count of faults: it rose for a ReadFault only.
abbrev pub HasWholeCause : ℕ → ℕ → Result (List ℕ) WholeFault → Type 0
HasWholeCause before now (Err ReadFault) = Rose before now
HasWholeCause before now (Err TooLong) = now ≡ before
HasWholeCause before now (Err NoMemory) = now ≡ before
HasWholeCause before now (Ok _) = now ≡ before

-- What the result says of a shelf that exposes its files.
abbrev pub IsWhole : Files → List ℕ → ℕ → Result (List ℕ) WholeFault → Tally → Tally → Type 0
IsWhole files name limit (Ok bytes) before now =
    (file files name ≡ Some bytes) × (length bytes ≤ limit) × (now ≡ before)
IsWhole files name limit (Err ReadFault) before now = FailsAt files name before now
IsWhole files name limit (Err TooLong) before now =
    (bytes : List ℕ) × (file files name ≡ Some bytes) × (limit < length bytes) × (now ≡ before)
IsWhole files name limit (Err NoMemory) before now = now ≡ before
