-- What contracts see of the parts of a mesh's cells. This project's own.
use Rattle.std.specs.Prelude.{ℕ, ◌<◌, ◌≤◌, List}
use Rattle.std.specs.List.{AllByRecursion}
use Rattle.liszt_base.specs.Limits.{rank_limit}

-- The rank of each cell, in the order of the cells, and the number of ranks.
pub record Parts : Type 0 where
  pub list : List ℕ
  pub ranks : ℕ

-- There are 1 to 16 ranks, and each part is one of them, from 0.
pub record AreRanks (parts : Parts) : Type 0 where
  pub some_rank : 0 < parts.ranks
  pub few_ranks : parts.ranks ≤ rank_limit
  pub below : AllByRecursion (λ part. part < parts.ranks) parts.list
