-- What a read of a shelf over the files of a system does to its open file. This project's own.
use Rattle.std.specs.Prelude.{◌≡◌, ℕ, List, Option, Some, None, Result, OnOk}
use Rattle.std.specs.Io.KnownBytes.{ReadConsumes}
use Rattle.liszt_io.specs.declared.outside.Failed.{Failed}

-- The bytes that remain of a file, where it exposes them.
abbrev pub Remaining : Type 0
Remaining = Option (List ℕ)

-- What a read does by what remains of the open file, previously and afterwards. It takes the next
-- bytes of the file, which stays open. Without an open file it fails.
abbrev pub ReadsOpenFile : Option Remaining → Option Remaining → Result ℕ Failed → List ℕ → Type 0
ReadsOpenFile None new result buffer = (new ≡ None) × OnOk result ⊥
ReadsOpenFile (Some old) None result buffer = ⊥
ReadsOpenFile (Some old) (Some new) result buffer = ReadConsumes old new result buffer
