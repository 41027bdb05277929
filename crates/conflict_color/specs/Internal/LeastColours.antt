-- The colours of iterations, computed from the first on. This project's own.
use Rattle.std.specs.Prelude.{ℕ, zero, suc, ◌+◌, Bool, if◌then◌else◌, nat_le, List, [], ◌∷◌, ◌++◌, map}
use Rattle.std.specs.Prelude.{length, slice_index, slice_index_or}
use Rattle.std.specs.List.{filter, list_any, range_with_len}
use Rattle.liszt_base.specs.Corners.{is_in}
use Rattle.conflict_color.specs.Colours.{number_of_colours}

abbrev pub share : List ℕ → List ℕ → Bool
share xs ys = list_any (is_in ys) xs

-- The first number from c on that is not in the list, among the next `bound` numbers.
abbrev pub first_absent : ℕ → ℕ → List ℕ → ℕ
first_absent zero c xs = c
first_absent (suc bound) c xs = if is_in xs c then first_absent bound (c + 1) xs else c

-- The colours of the iterations below i that are in conflict with i.
abbrev pub colours_in_conflict : List (List ℕ) → List ℕ → ℕ → List ℕ
colours_in_conflict touched colours i =
    map (λ j. slice_index colours j)
    (filter (λ j. share (slice_index_or touched i []) (slice_index_or touched j [])) (range_with_len 0 i))

abbrev pub least_absent : List ℕ → ℕ
least_absent xs = first_absent (number_of_colours xs) 0 xs

-- The colours of the first n iterations.
unfoldable pub first_colours : List (List ℕ) → ℕ → List ℕ
first_colours touched zero = []
first_colours touched (suc n) =
    first_colours touched n ++ least_absent (colours_in_conflict touched (first_colours touched n) n) ∷ []

unfoldable pub colours_of : List (List ℕ) → List ℕ
colours_of touched = first_colours touched (length touched)

-- The iterations whose colour is at least c, ascending.
abbrev pub positions_from : ℕ → List ℕ → List ℕ
positions_from c colours = filter (λ i. nat_le c (slice_index colours i)) (range_with_len 0 (length colours))
