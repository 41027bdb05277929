-- The headers of a mesh's two files, .node and .ele of TetGen. That words
-- may be missing on the right, and the limits, are this project's own.
use Rattle.std.specs.Prelude.{◌≡◌, ℕ, ◌≤◌, ◌&&◌, nat_le, if◌then◌else◌, true, Option, Some, List}
use Rattle.std.specs.Prelude.{[], ◌∷◌, ◌++◌, map, drop, length, ℤ, pos, negsuc, slice_index_or}
use Rattle.std.specs.List.{list_all}
use Rattle.std.specs.Str.Parse.{signed_digits_value}
use Rattle.liszt_base.specs.declared.answers.MeshWhat.{MeshWhat}
use Rattle.liszt_base.specs.declared.answers.MeshWhat.TheVariants.{Header, Dimension}
use Rattle.liszt_base.specs.declared.answers.MeshWhat.TheVariants.{SecondOrder, TooMany}
use Rattle.liszt_base.specs.Limits.{point_limit, cell_limit}
use Rattle.text_scan.specs.Numbers.{is_whole}
use Rattle.tet_reader.specs.Tests.{unless, is_within}

-- The greatest number of attributes of a point or a cell.
abbrev pub attribute_limit : ℕ
attribute_limit = 64

-- The numbers of a header's words, followed by the defaults of the missing
-- words. A row has at least one word, so the count is never missing.
abbrev pub header_numbers : List ℤ → List (List ℕ) → List ℤ
header_numbers missing words = map (signed_digits_value 10) words ++ drop (length words) missing

-- Of a node file: the number of points, the dimension, the numbers of attributes and markers.
-- Of an ele file: the number of cells, the number of corners and the number of attributes.
abbrev pub node_numbers : List (List ℕ) → List ℤ
node_numbers = header_numbers (pos 0 ∷ pos 3 ∷ pos 0 ∷ pos 0 ∷ [])

abbrev pub ele_numbers : List (List ℕ) → List ℤ
ele_numbers = header_numbers (pos 0 ∷ pos 4 ∷ pos 0 ∷ [])

-- The words are the header of n points with these numbers of attributes
-- and markers each, or of n cells with this number of attributes each.
pub record IsNodeHeader (words : List (List ℕ)) (points attributes markers : ℕ) : Type 0 where
  pub spelled : list_all is_whole words ≡ true
  pub numbers : node_numbers words ≡ pos points ∷ pos 3 ∷ pos attributes ∷ pos markers ∷ []
  pub points_fit : points ≤ point_limit
  pub attributes_fit : attributes ≤ attribute_limit
  pub markers_fit : markers ≤ 1

pub record IsEleHeader (words : List (List ℕ)) (cells attributes : ℕ) : Type 0 where
  pub spelled : list_all is_whole words ≡ true
  pub numbers : ele_numbers words ≡ pos cells ∷ pos 4 ∷ pos attributes ∷ []
  pub cells_fit : cells ≤ cell_limit
  pub attributes_fit : attributes ≤ attribute_limit

-- THE TESTS OF A HEADER, in order. A test finds a fault, or none.
abbrev pub number_at : List ℤ → ℕ → ℤ
number_at numbers place = slice_index_or numbers place (pos 0)

abbrev pub spelling_test : ℕ → List (List ℕ) → Option MeshWhat
spelling_test most words = unless (nat_le (length words) most && list_all is_whole words) Header

abbrev pub count_test : ℕ → ℤ → Option MeshWhat
count_test most (pos n) = unless (nat_le n most) TooMany
count_test most (negsuc n) = Some Header

abbrev pub corners_test : ℤ → Option MeshWhat
corners_test z = if is_within 10 10 z then Some SecondOrder else unless (is_within 4 4 z) Header

abbrev pub node_number_tests : List ℤ → List (Option MeshWhat)
node_number_tests numbers =
    count_test point_limit (number_at numbers 0)
    ∷ unless (is_within 3 3 (number_at numbers 1)) Dimension
    ∷ unless (is_within 0 attribute_limit (number_at numbers 2)) Header
    ∷ unless (is_within 0 1 (number_at numbers 3)) Header
    ∷ []

abbrev pub node_header_tests : List (List ℕ) → List (Option MeshWhat)
node_header_tests words = spelling_test 4 words ∷ node_number_tests (node_numbers words)

abbrev pub ele_number_tests : List ℤ → List (Option MeshWhat)
ele_number_tests numbers =
    count_test cell_limit (number_at numbers 0)
    ∷ corners_test (number_at numbers 1)
    ∷ unless (is_within 0 attribute_limit (number_at numbers 2)) Header
    ∷ []

abbrev pub ele_header_tests : List (List ℕ) → List (Option MeshWhat)
ele_header_tests words = spelling_test 3 words ∷ ele_number_tests (ele_numbers words)
