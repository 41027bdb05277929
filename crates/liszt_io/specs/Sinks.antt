-- The meaning of a sink: the bytes written, where it exposes them. This project's own.
use Rattle.std.specs.Prelude.{◌≡◌, ◌==◌, ◌&&◌, ℕ, ◌<◌, ◌≤◌, ◌++◌, Bool, true, List, length, take}
use Rattle.std.specs.Prelude.{Option, Result, Ok, Err}
use Rattle.std.specs.Io.KnownBytes.{append_known}
use Rattle.liszt_io.specs.declared.outside.Failed.{Failed}
use Rattle.liszt_io.specs.declared.outside.WriteFault.{WriteFault}

-- The first `count` bytes of the piece were taken, at least one of a nonempty piece.
pub record TakesPiece (before now : Option (List ℕ)) (piece : List ℕ) (count : ℕ) : Type 0 where
  pub inside : count ≤ length piece
  pub some : 0 < length piece → 0 < count
  pub output : now ≡ append_known before (take count piece)

-- What `write` does: a failed call takes nothing, and the write of an empty piece does not fail.
abbrev pub Takes : Option (List ℕ) → Option (List ℕ) → List ℕ → Result ℕ Failed → Type 0
Takes before now piece (Ok count) = TakesPiece before now piece count
Takes before now piece (Err _) = (now ≡ before) × (0 < length piece)

-- Whether all bytes written have been flushed, after a `write`: not if it took any.
abbrev pub flushed_by_write : Bool → Result ℕ Failed → Bool
flushed_by_write flushed (Ok count) = flushed && (count == 0)
flushed_by_write flushed (Err _) = flushed

-- Whether all bytes written have been flushed, after a `flush`: one that fails flushes nothing.
abbrev pub flushed_by_flush : Bool → Result Unit Failed → Bool
flushed_by_flush flushed (Ok _) = true
flushed_by_flush flushed (Err _) = flushed

-- A prefix of the text was taken.
pub record TakesPrefix (before now : Option (List ℕ)) (text : List ℕ) : Type 0 where
  pub prefix : List ℕ
  pub rest : List ℕ
  pub parts : text ≡ prefix ++ rest
  pub output : now ≡ append_known before prefix

-- What a writer of a text does: all of it is taken, or a prefix where it fails.
abbrev pub Writes : List ℕ → Option (List ℕ) → Option (List ℕ) → Result Unit WriteFault → Type 0
Writes text before now (Ok _) = now ≡ append_known before text
Writes text before now (Err _) = TakesPrefix before now text
