-- The points and the cells that the files of the worked cases spell.
use Rattle.std.proofs.Common.{◌≡◌, ℕ, List, [], ◌∷◌, ◌++◌, length, refl, arith}
use Rattle.std.specs.Prelude.{ℤ, pos, negsuc, Ok, codes, map, ◌+◌}
use Rattle.liszt_base.specs.Corners.{IsCell}
use Rattle.liszt_base.specs.declared.mesh.Point.{Point}
use Rattle.liszt_base.specs.declared.mesh.RawCell.{RawCell}
use Rattle.text_scan.specs.Numbers.{whole_of, millionths_of}
use Rattle.text_scan.specs.Rows.{Row, text_rows}
use Rattle.tet_reader.specs.Files.{marked_points, four_marked, cell_with_region, turned_with_region}
use Rattle.tet_reader.specs.Files.{short_points, one_short, short_cell, plain_cell}
use Rattle.tet_reader.specs.Points.{Spell, first_or_zero, IsPointRow, IsCellRow, Points, Cells}
use Rattle.tet_reader.proofs.Forms.{cell_form}

-- a row of a point by its parts
point_row : {number : ℕ} {p : Point} (n : List ℕ) (xyz attributes markers : List (List ℕ)) (values marks : List ℤ)
    → whole_of n ≡ Ok (pos number) → Spell millionths_of xyz (p.x ∷ p.y ∷ p.z ∷ []) → Spell millionths_of attributes values
    → Spell whole_of markers marks → p.mark ≡ first_or_zero marks
    → IsPointRow (length attributes) (length markers) number (n ∷ (xyz ++ attributes ++ markers)) p
point_row n xyz attributes markers values marks is_number are_coordinates are_values are_marks is_mark = record {
  number_word = n;
  coordinate_words = xyz;
  attribute_words = attributes;
  marker_words = markers;
  attribute_numbers = values;
  marker_numbers = marks;
  words_are = refl;
  number_is = is_number;
  coordinates_are = are_coordinates;
  attributes_are = are_values;
  markers_are = are_marks;
  attributes_count = refl;
  markers_count = refl;
  mark_is = is_mark;
}

-- a row of a cell by its parts
cell_row : {points base number : ℕ} {c : RawCell} (n : List ℕ) (corners attributes : List (List ℕ)) (values : List ℤ)
    → whole_of n ≡ Ok (pos number) → Spell whole_of corners (map (λ v. pos (base + v)) c.corners) → IsCell points c.corners
    → Spell millionths_of attributes values → c.region ≡ first_or_zero values
    → IsCellRow (cell_form (length attributes) points base) number (n ∷ (corners ++ attributes)) c
cell_row n corners attributes values is_number are_corners is_cell are_values is_region = record {
  number_word = n;
  corner_words = corners;
  attribute_words = attributes;
  attribute_numbers = values;
  words_are = refl;
  number_is = is_number;
  corners_are = are_corners;
  corners_fit = is_cell;
  attributes_are = are_values;
  attributes_count = refl;
  region_is = is_region;
}

-- the rows of that text, and what they spell
abbrev marked_header : Row
marked_header = record { line = 1; words = codes "4" ∷ codes "3" ∷ codes "1" ∷ codes "1" ∷ [] }

abbrev marked_others : List Row
marked_others =
    record { line = 2; words = codes "1" ∷ codes "1" ∷ codes "2" ∷ codes "3" ∷ codes ".5" ∷ codes "7" ∷ [] }
    ∷ record { line = 4; words = codes "2" ∷ codes "0" ∷ codes "1e-05" ∷ codes "0" ∷ codes "0" ∷ codes "-1" ∷ [] }
    ∷ record { line = 5; words = codes "3" ∷ codes "0" ∷ codes "1" ∷ codes "0" ∷ codes "0" ∷ codes "0" ∷ [] }
    ∷ record { line = 6; words = codes "4" ∷ codes "0" ∷ codes "-0.0000019" ∷ codes "1" ∷ codes "1e3" ∷ codes "2" ∷ [] } ∷ []

marked_rows : (text_rows marked_points).rows ≡ marked_header ∷ marked_others
marked_rows = refl

pub marked : Points (text_rows marked_points).rows 1 four_marked
marked = record {
  header = marked_header;
  others = marked_others;
  attributes = 1;
  markers = 1;
  rows_are = marked_rows;
  header_is = record { spelled = refl; numbers = refl; points_fit = omega arith; attributes_fit = omega arith; markers_fit = omega arith };
  base_is = omega arith;
  base_of_none = λ e. absurd (omega arith);
  each = (
    point_row (codes "1") (codes "1" ∷ codes "2" ∷ codes "3" ∷ []) (codes ".5" ∷ []) (codes "7" ∷ []) (pos 500000 ∷ []) (pos 7 ∷ []) refl refl refl refl refl,
    (
      point_row (codes "2") (codes "0" ∷ codes "1e-05" ∷ codes "0" ∷ []) (codes "0" ∷ []) (codes "-1" ∷ []) (pos 0 ∷ []) (negsuc 0 ∷ []) refl refl refl refl refl,
      (
        point_row (codes "3") (codes "0" ∷ codes "1" ∷ codes "0" ∷ []) (codes "0" ∷ []) (codes "0" ∷ []) (pos 0 ∷ []) (pos 0 ∷ []) refl refl refl refl refl,
        (
          point_row (codes "4") (codes "0" ∷ codes "-0.0000019" ∷ codes "1" ∷ []) (codes "1e3" ∷ []) (codes "2" ∷ []) (pos 1000000000 ∷ []) (pos 2 ∷ []) refl refl refl refl refl,
          tt,
        ),
      ),
    ),
  );
}

abbrev with_region_header : Row
with_region_header = record { line = 1; words = codes "1" ∷ codes "4" ∷ codes "2" ∷ [] }

abbrev with_region_others : List Row
with_region_others =
    record { line = 2; words = codes "0" ∷ codes "4" ∷ codes "2" ∷ codes "3" ∷ codes "1" ∷ codes "2.5" ∷ codes "9" ∷ [] } ∷ []

with_region_rows : (text_rows cell_with_region).rows ≡ with_region_header ∷ with_region_others
with_region_rows = refl

pub with_region : Cells (text_rows cell_with_region).rows four_marked 1 turned_with_region
with_region = record {
  header = with_region_header;
  others = with_region_others;
  attributes = 2;
  first = 0;
  rows_are = with_region_rows;
  header_is = record { spelled = refl; numbers = refl; cells_fit = omega arith; attributes_fit = omega arith };
  first_is = omega arith;
  each = (
    cell_row (codes "0") (codes "4" ∷ codes "2" ∷ codes "3" ∷ codes "1" ∷ []) (codes "2.5" ∷ codes "9" ∷ []) (pos 2500000 ∷ pos 9000000 ∷ [])
        refl refl (refl, refl, refl) refl refl,
    tt,
  );
}

abbrev short_header : Row
short_header = record { line = 1; words = codes "1" ∷ [] }

abbrev short_others : List Row
short_others =
    record { line = 2; words = codes "0" ∷ codes "1" ∷ codes "2" ∷ codes "3" ∷ [] } ∷ []

short_rows : (text_rows short_points).rows ≡ short_header ∷ short_others
short_rows = refl

pub short : Points (text_rows short_points).rows 0 one_short
short = record {
  header = short_header;
  others = short_others;
  attributes = 0;
  markers = 0;
  rows_are = short_rows;
  header_is = record { spelled = refl; numbers = refl; points_fit = omega arith; attributes_fit = omega arith; markers_fit = omega arith };
  base_is = omega arith;
  base_of_none = λ e. refl;
  each = (point_row (codes "0") (codes "1" ∷ codes "2" ∷ codes "3" ∷ []) [] [] [] [] refl refl refl refl refl, tt);
}

abbrev without_region_header : Row
without_region_header = record { line = 1; words = codes "1" ∷ [] }

abbrev without_region_others : List Row
without_region_others =
    record { line = 2; words = codes "1" ∷ codes "0" ∷ codes "1" ∷ codes "2" ∷ codes "3" ∷ [] } ∷ []

without_region_rows : (text_rows short_cell).rows ≡ without_region_header ∷ without_region_others
without_region_rows = refl

pub without_region : Cells (text_rows short_cell).rows four_marked 0 plain_cell
without_region = record {
  header = without_region_header;
  others = without_region_others;
  attributes = 0;
  first = 1;
  rows_are = without_region_rows;
  header_is = record { spelled = refl; numbers = refl; cells_fit = omega arith; attributes_fit = omega arith };
  first_is = omega arith;
  each = (cell_row (codes "1") (codes "0" ∷ codes "1" ∷ codes "2" ∷ codes "3" ∷ []) [] [] refl refl (refl, refl, refl) refl refl, tt);
}
