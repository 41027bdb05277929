-- The script of the tests: packets of 0 to 7 words, which tell their link and their number.
use Rattle.std.specs.Prelude.{ℕ, ◌+◌, ◌*◌, ◌%◌, List, map}
use Rattle.std.specs.List.{range_with_len}

-- word i of packet n from a to b
abbrev pub word_at : ℕ → ℕ → ℕ → ℕ → ℕ
word_at a b n i = ((n * 16 + a) * 16 + b) * 8 + i

abbrev pub packet_at : ℕ → ℕ → ℕ → List ℕ
packet_at a b n = map (word_at a b n) (range_with_len 0 (n % 8))

abbrev pub packets_at : ℕ → ℕ → ℕ → List (List ℕ)
packets_at count a b = map (packet_at a b) (range_with_len 0 count)
