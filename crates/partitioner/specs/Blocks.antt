-- The partition of cells into blocks of consecutive cells. This project's own.
use Rattle.std.specs.Prelude.{ℕ, ◌*◌, ◌/◌, map}
use Rattle.std.specs.List.{range_with_len}
use Rattle.partitioner.specs.PartLists.{Parts}

-- The block of cell c of n cells over r ranks is c * r / n, truncated.
abbrev pub block_of : ℕ → ℕ → ℕ → ℕ
block_of cells ranks cell = cell * ranks / cells

abbrev pub block_parts : ℕ → ℕ → Parts
block_parts cells ranks =
    record { list = map (block_of cells ranks) (range_with_len 0 cells); ranks = ranks }
