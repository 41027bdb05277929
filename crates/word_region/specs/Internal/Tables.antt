-- Lists of one number for each scope or field, and what a region keeps. Private contracts cite them.
use Rattle.std.specs.Prelude.{◌≡◌, ◌<◌, ℕ, ◌+◌, List, length, slice_index, sum_by, take}
use Rattle.word_region.specs.Regions.{IsRegion, RegionState, first_declared, first_word_of, own_words, peak_of, scope_at, words_above}

-- the list of the values of a function at the numbers below a count
pub record IsTable (count : ℕ) (value : ℕ → ℕ) (list : List ℕ) : Type 0 where
  pub all : length list ≡ count
  pub values : (index : ℕ) → index < count → slice_index list index ≡ value index

-- the words of all fields together
abbrev pub all_words : List (ℕ × ℕ) → ℕ
all_words sizes = sum_by (λ field. field.1) sizes

-- the words of the ancestors of each scope, and the greatest number of words of a scope and its ancestors
pub record AreSums (scopes : List ℕ) (sizes : List (ℕ × ℕ)) (starts : List ℕ) (peak : ℕ) : Type 0 where
  pub words : IsTable (length scopes) (words_above scopes sizes) starts
  pub greatest : peak ≡ peak_of scopes sizes

-- the first word of the field at an index, from the words of the ancestors of each scope
abbrev pub first_after : List ℕ → List (ℕ × ℕ) → ℕ → ℕ
first_after starts sizes index =
    1 + slice_index starts (scope_at sizes index) + own_words (take index sizes) (scope_at sizes index)

-- a region with the first word of each field, by its index, and the peak
pub record HasWords (region : RegionState) (firsts : List ℕ) (peak : ℕ) : Type 0 where
  pub is_region : IsRegion region
  pub words : IsTable (length region.sizes) (λ index. first_word_of region.scopes region.sizes (first_declared + index)) firsts
  pub greatest : peak ≡ peak_of region.scopes region.sizes
