-- The points and the cells that the rows of a mesh's two files spell: TetGen's
-- .node and .ele forms. That coordinates and attributes are read in millionths,
-- and that cells may be numbered from a base of their own, is this project's.
use Rattle.std.specs.Prelude.{◌≡◌, ℕ, ◌+◌, ◌≤◌, List, [], ◌∷◌, ◌++◌, map}
use Rattle.std.specs.Prelude.{length, ℤ, pos, Result, Ok, ⊤, slice_index_or}
use Rattle.liszt_base.specs.Corners.{IsCell}
use Rattle.liszt_base.specs.declared.mesh.Point.{Point}
use Rattle.liszt_base.specs.declared.mesh.RawCell.{RawCell}
use Rattle.text_scan.specs.Numbers.{whole_of, millionths_of}
use Rattle.text_scan.specs.Rows.{Row}
use Rattle.text_scan.specs.declared.faults.NumberFault.{NumberFault}
use Rattle.tet_reader.specs.Headers.{IsNodeHeader, IsEleHeader}

-- The words are read as these numbers.
abbrev pub Spell : (List ℕ → Result ℤ NumberFault) → List (List ℕ) → List ℤ → Type 0
Spell read words numbers = map read words ≡ map Ok numbers

abbrev pub first_or_zero : List ℤ → ℤ
first_or_zero numbers = slice_index_or numbers 0 (pos 0)

-- The row of a point: its number, x, y and z, the attributes,
-- which are read and not used, and 0 or 1 markers.
pub record IsPointRow (attributes markers number : ℕ) (words : List (List ℕ)) (point : Point) : Type
    0 where
  pub number_word : List ℕ
  pub coordinate_words : List (List ℕ)
  pub attribute_words : List (List ℕ)
  pub marker_words : List (List ℕ)
  pub attribute_numbers : List ℤ
  pub marker_numbers : List ℤ
  pub words_are : words ≡ number_word ∷ (coordinate_words ++ attribute_words ++ marker_words)
  pub number_is : whole_of number_word ≡ Ok (pos number)
  pub coordinates_are : Spell millionths_of coordinate_words (point.x ∷ point.y ∷ point.z ∷ [])
  pub attributes_are : Spell millionths_of attribute_words attribute_numbers
  pub markers_are : Spell whole_of marker_words marker_numbers
  pub attributes_count : length attribute_words ≡ attributes
  pub markers_count : length marker_words ≡ markers
  pub mark_is : point.mark ≡ first_or_zero marker_numbers

-- The form of the rows of cells: their number of attributes, the number of points, and the number
-- of the first point.
pub record CellForm : Type 0 where
  pub attributes : ℕ
  pub points : ℕ
  pub base : ℕ

-- The row of a cell: its number, the numbers of four different points, and the attributes,
-- of which the first is the region. A corner is kept as the index of its point, from 0.
pub record IsCellRow (form : CellForm) (number : ℕ) (words : List (List ℕ)) (cell : RawCell) : Type 0
  where
    pub number_word : List ℕ
    pub corner_words : List (List ℕ)
    pub attribute_words : List (List ℕ)
    pub attribute_numbers : List ℤ
    pub words_are : words ≡ number_word ∷ (corner_words ++ attribute_words)
    pub number_is : whole_of number_word ≡ Ok (pos number)
    pub corners_are : Spell whole_of corner_words (map (λ v. pos (form.base + v)) cell.corners)
    pub corners_fit : IsCell form.points cell.corners
    pub attributes_are : Spell millionths_of attribute_words attribute_numbers
    pub attributes_count : length attribute_words ≡ form.attributes
    pub region_is : cell.region ≡ first_or_zero attribute_numbers

-- Each row is the row of the item at the same index. The rows are numbered consecutively.
abbrev pub AreNumbered : {A : Type 0} → (ℕ → List (List ℕ) → A → Type 0) → ℕ → List Row → List A
    → Type 0
AreNumbered IsRowOf number [] [] = ⊤
AreNumbered IsRowOf number [] (item ∷ items) = ⊥
AreNumbered IsRowOf number (row ∷ rows) [] = ⊥
AreNumbered IsRowOf number (row ∷ rows) (item ∷ items) =
    IsRowOf number row.words item × AreNumbered IsRowOf (number + 1) rows items

-- The rows of a node file spell these points. The base is the
-- number of the first point, 0 or 1, and 0 where there is none.
pub record Points (rows : List Row) (base : ℕ) (points : List Point) : Type 0 where
  pub header : Row
  pub others : List Row
  pub attributes : ℕ
  pub markers : ℕ
  pub rows_are : rows ≡ header ∷ others
  pub header_is : IsNodeHeader header.words (length points) attributes markers
  pub base_is : base ≤ 1
  pub base_of_none : length points ≡ 0 → base ≡ 0
  pub each : AreNumbered (IsPointRow attributes markers) base others points

-- The rows of an ele file spell these cells over these
-- points. The number of the first cell is 0 or 1.
pub record Cells (rows : List Row) (points : List Point) (base : ℕ) (cells : List RawCell) : Type 0
  where
    pub header : Row
    pub others : List Row
    pub attributes : ℕ
    pub first : ℕ
    pub rows_are : rows ≡ header ∷ others
    pub header_is : IsEleHeader header.words (length cells) attributes
    pub first_is : first ≤ 1
    pub each : AreNumbered
        (IsCellRow (record { attributes = attributes; points = length points; base = base }))
        first others cells
