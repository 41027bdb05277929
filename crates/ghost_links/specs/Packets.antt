-- What contracts see of a packet. This project's own.
use Rattle.std.specs.Prelude.{ℕ, ◌-◌, List, ◌++◌, length, replicate, take}

-- the number of words that it may have, and the words that it has
pub record PacketWords : Type 0 where
  pub size : ℕ
  pub words : List ℕ

-- the first n words, filled up with 0
abbrev pub resized_words : ℕ → List ℕ → List ℕ
resized_words n words = take n words ++ replicate (n - length words) 0
