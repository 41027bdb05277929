-- What contracts see of a scanner that is fed a text piece by piece. This project's own.
use Rattle.std.specs.Prelude.{◌≡◌, ℕ, List, length}

-- The number of bytes that the scanner was fed.
abbrev pub fed_length : List ℕ → ℕ
fed_length scanned = length scanned

-- The scanner denotes this text.
pub record Denotes (scanned bytes : List ℕ) : Type 0 where
  pub same : scanned ≡ bytes
