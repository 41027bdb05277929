-- The colours of iterations, where list i has the numbers that iteration i touches. The least colour
-- in the order of the iterations is the greedy colouring of graphs. The relations are this project's own.
use Rattle.std.specs.Prelude.{◌≡◌, ◌≢◌, ℕ, ◌+◌, ◌<◌, ◌==◌, max, List, [], ◌∷◌, length}
use Rattle.std.specs.Prelude.{slice_index, slice_index_or}
use Rattle.std.specs.List.{filter, range_with_len, Contains}

-- Two different iterations touch one number.
pub record Conflict (touched : List (List ℕ)) (i j : ℕ) : Type 0 where
  pub different : i ≢ j
  pub number : ℕ
  pub by_first : Contains (slice_index_or touched i []) number
  pub by_second : Contains (slice_index_or touched j []) number

-- The colour of iteration i is the least number that is the colour of no earlier iteration in conflict with it.
pub record HasLeastColour (touched : List (List ℕ)) (colours : List ℕ) (i : ℕ) : Type 0 where
  pub apart : (j : ℕ) → j < i → Conflict touched i j → slice_index colours j ≢ slice_index colours i
  pub least : (c : ℕ) → c < slice_index colours i
      → (j : ℕ) × (j < i) × Conflict touched i j × (slice_index colours j ≡ c)

pub record AreColours (touched : List (List ℕ)) (colours : List ℕ) : Type 0 where
  pub length_is : length colours ≡ length touched
  pub each : (i : ℕ) → i < length touched → HasLeastColour touched colours i

-- The least number above all colours.
abbrev pub number_of_colours : List ℕ → ℕ
number_of_colours [] = 0
number_of_colours (c ∷ cs) = max (c + 1) (number_of_colours cs)

-- The iterations of a colour, ascending.
abbrev pub positions_of : ℕ → List ℕ → List ℕ
positions_of c colours = filter (λ i. slice_index colours i == c) (range_with_len 0 (length colours))
