-- What a call answers that takes memory, by a definition
-- that knows nothing of memory. This project's own.
use Rattle.std.specs.Prelude.{◌≡◌, Result, Ok, Err}
use Rattle.liszt_base.specs.declared.answers.Refused.{Refused}
use Rattle.liszt_base.specs.declared.answers.Refused.TheVariants.{Fault, NoMemory as OutOfMemory}

-- `Ok` is the definition's value, and a fault is its fault. Out of memory is always allowed.
abbrev pub Gives : {A F : Type 0} → Result A F → Result A (Refused F) → Type 0
Gives definition (Ok value) = definition ≡ Ok value
Gives definition (Err (Fault fault)) = definition ≡ Err fault
Gives definition (Err OutOfMemory) = Unit {0}
