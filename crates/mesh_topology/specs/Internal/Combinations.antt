-- Combinations of members of a list, and tables of them. This project's own.
use Rattle.std.specs.Prelude.{◌≡◌, ◌↔◌, ℕ, ◌+◌, ◌≤◌, zero, suc, List, [], ◌∷◌, ◌++◌, ◌<◌}
use Rattle.std.specs.Prelude.{◌^◌, ◌==◌, Bool, map, length, slice_index, slice_index_or}
use Rattle.std.specs.Cmp.Lexicographic.{slice_cmp}
use Rattle.std.specs.List.{AllPairs, Contains}
use Rattle.std.specs.List.Sorted.{IsNonDecreasing, IsPermutation}
use Rattle.std.specs.Ordering.{nat_cmp}
use Rattle.std.specs.declared.cmp.Ordering.TheVariants.{Less}
use Rattle.liszt_base.specs.declared.mesh.RawCell.{RawCell}

-- the combinations of `size` members of a list, each in the order of the list
abbrev pub combinations : ℕ → List ℕ → List (List ℕ)
combinations zero xs = [] ∷ []
combinations (suc size) [] = []
combinations (suc size) (x ∷ xs) =
    map (λ set. x ∷ set) (combinations size xs) ++ combinations (suc size) xs

-- the same sets, each once, in lexicographic order
pub record IsTableOf (sets table : List (List ℕ)) : Type 0 where
  pub ordered : AllPairs (λ x y. slice_cmp nat_cmp x y ≡ Less) table
  pub members : (set : List ℕ) → Contains table set ↔ Contains sets set

-- an ordered table whose indices are numbers of 32 bits
pub record IsSmallTable (table : List (List ℕ)) : Type 0 where
  pub few : length table < 2 ^ 32
  pub ordered : AllPairs (λ x y. slice_cmp nat_cmp x y ≡ Less) table

-- the corners of a cell in ascending order
pub record AreSortedCorners (cell : RawCell) (row : List ℕ) : Type 0 where
  pub ascending : IsNonDecreasing row
  pub permutes : IsPermutation cell.corners row

-- the indices of `sets` in a table
pub record AreRanks (table sets : List (List ℕ)) (ids : List ℕ) : Type 0 where
  pub below : (id : ℕ) → Contains ids id → id < length table
  pub sets_are : map (λ id. slice_index_or table id []) ids ≡ sets

-- a table contains all combinations of `size` of these corners
abbrev pub HasCombinations : ℕ → List (List ℕ) → List ℕ → Type 0
HasCombinations size table corners =
    (set : List ℕ) → Contains (combinations size corners) set → Contains table set

-- the indices in a table of the first `done` sets
pub record AreRanksSoFar (table sets : List (List ℕ)) (done : ℕ) (ids : List ℕ) : Type 0 where
  pub length_is : length ids ≡ length sets
  pub at : (k : ℕ) → k < done
      → (slice_index ids k < length table)
      × (slice_index_or table (slice_index ids k) [] ≡ slice_index_or sets k [])

-- the first corner of a set
abbrev pub first_corner : List ℕ → ℕ
first_corner set = slice_index set 0

abbrev pub begins_with : ℕ → List ℕ → Bool
begins_with first set = first_corner set == first

-- the sets whose first corner is below a bound, each once, in lexicographic order
pub record IsTableBelow (sets table : List (List ℕ)) (first : ℕ) : Type 0 where
  pub ordered : AllPairs (λ x y. slice_cmp nat_cmp x y ≡ Less) table
  pub members : (set : List ℕ)
      → Contains table set ↔ (Contains sets set × (first_corner set < first))

-- for each number below `done` the index in a table of the
-- first set that begins with that number or a larger one
pub record AreStarts (table : List (List ℕ)) (done : ℕ) (starts : List ℕ) : Type 0 where
  pub length_is : length starts ≡ done
  pub inside : (v : ℕ) → v < done → slice_index starts v ≤ length table
  pub below : (v id : ℕ) → v < done → id < slice_index starts v
      → first_corner (slice_index_or table id []) < v
  pub above : (v id : ℕ) → v < done → slice_index starts v ≤ id → id < length table
      → v ≤ first_corner (slice_index_or table id [])

-- a table with the starts by which it is searched
pub record IsIndexed (table : List (List ℕ)) (starts : List ℕ) : Type 0 where
  pub small : IsSmallTable table
  pub starts_are : AreStarts table (length starts) starts
  pub firsts : (id : ℕ) → id < length table
      → first_corner (slice_index_or table id []) + 1 < length starts
