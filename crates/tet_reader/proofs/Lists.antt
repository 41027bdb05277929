-- The rows of a file spell one list, and some list exactly where the file has no fault.
use Rattle.std.proofs.Common.{◌≡◌, ℕ, ◌+◌, ◌≤◌, Option, None, List, [], ◌∷◌, ◌++◌, drop, length, refl, sym, ap}
use Rattle.std.proofs.Common.{subst, ◌∙◌, arith}
use Rattle.std.specs.Prelude.{ℤ, nat_abs}
use Rattle.liszt_base.specs.Corners.{are_different}
use Rattle.liszt_base.specs.declared.answers.MeshFile.TheVariants.{Node, Ele}
use Rattle.liszt_base.specs.declared.answers.MeshWhat.{MeshWhat}
use Rattle.liszt_base.specs.declared.answers.MeshWhat.TheVariants.{CornerTwice}
use Rattle.liszt_base.specs.declared.mesh.Point.{Point}
use Rattle.liszt_base.specs.declared.mesh.RawCell.{RawCell}
use Rattle.text_scan.specs.Rows.{Row}
use Rattle.tet_reader.specs.Tests.{first_some, unless, row_tests}
use Rattle.tet_reader.specs.declared.words.Word.{Word}
use Rattle.tet_reader.specs.Headers.{node_numbers, ele_numbers, IsNodeHeader, IsEleHeader, number_at, node_header_tests, ele_header_tests}
use Rattle.tet_reader.specs.Points.{AreNumbered, IsPointRow, IsCellRow, Points, Cells}
use Rattle.tet_reader.specs.Faults.{first_number, point_words, cell_words, row_corners, node_row_tests, node_tests, ele_row_tests}
use Rattle.tet_reader.specs.Faults.{ele_tests}
use Rattle.tet_reader.proofs.Forms.{cell_form}
use Rattle.tet_reader.proofs.Tests.{unless_none, none_unless, FindNone, none_append, append_none, row_spelled, row_passes}
use Rattle.tet_reader.proofs.HeaderTests.{node_header_spelled, node_header_passes, node_counts, ele_header_spelled, ele_header_passes, ele_counts}
use Rattle.tet_reader.proofs.PointRows.{one_point, point_spelled, point_passes, point_number}
use Rattle.tet_reader.proofs.CellRows.{one_cell, cell_spelled, cell_passes, cell_number}
use Rattle.tet_reader.proofs.RowLists.{AllPass, file_spelled, file_passes, IsKind, rows_spelled, rows_within, rows_passes, numbered_length}
use Rattle.tet_reader.proofs.RowLists.{one_items, first_number_fits, first_number_is}

-- ---- one list

-- with no rows the tests take 0
pub first_of_none : (rows : List Row) → length rows ≡ 0 → first_number rows ≡ 0
first_of_none [] e = refl
first_of_none (row ∷ rows) e = absurd (omega arith)

-- the tests take the number of the first row
point_first : (attributes markers base : ℕ) (rows : List Row) (points : List Point) → base ≤ 1 → (length points ≡ 0 → base ≡ 0)
    → AreNumbered (IsPointRow attributes markers) base rows points → first_number rows ≡ base
point_first attributes markers base [] points le none h = sym (none (numbered_length (IsPointRow attributes markers) base [] points h))
point_first attributes markers base (row ∷ rows) points le none h =
    first_number_is (IsPointRow attributes markers) (point_number attributes markers) row rows base points le h

-- the base of a node file is the first number that the tests take from its rows
pub points_base : (rows : List Row) (base : ℕ) (points : List Point) → Points rows base points → first_number (drop 1 rows) ≡ base
points_base rows base points h =
    ap (λ (l : List Row). first_number (drop 1 l)) h.rows_are
    ∙ point_first h.attributes h.markers base h.others points h.base_is h.base_of_none h.each

-- the count of a node file's points is that which the tests take from its header
pub points_count : (rows : List Row) (base : ℕ) (points : List Point) → Points rows base points
    → length (drop 1 rows) ≡ length points
points_count rows base points h =
    ap (λ (l : List Row). length (drop 1 l)) h.rows_are
    ∙ sym (numbered_length (IsPointRow h.attributes h.markers) base h.others points h.each)

-- rows spell one list of points from one base
pub one_point_list : (rows : List Row) (base other : ℕ) (points others : List Point) → Points rows base points → Points rows other others
    → (base ≡ other) × (points ≡ others)
one_point_list rows base other points others h i =
    let same : h.header ∷ h.others ≡ i.header ∷ i.others = sym h.rows_are ∙ i.rows_are in
    let header : h.header ≡ i.header = cc (same) in
    let rest : h.others ≡ i.others = cc (same) in
    let mine = node_counts h.header.words (length points) h.attributes h.markers h.header_is in
    let theirs = node_counts i.header.words (length others) i.attributes i.markers i.header_is in
    let numbers : node_numbers i.header.words ≡ node_numbers h.header.words = ap (λ (r : Row). node_numbers r.words) (sym header) in
    let attributes : i.attributes ≡ h.attributes = sym theirs.1 ∙ (ap (λ (l : List ℤ). nat_abs (number_at l 2)) numbers ∙ mine.1) in
    let markers : i.markers ≡ h.markers = sym theirs.2 ∙ (ap (λ (l : List ℤ). nat_abs (number_at l 3)) numbers ∙ mine.2) in
    let one = subst (λ (l : List Row). AreNumbered (IsPointRow i.attributes i.markers) other l others) (sym rest) i.each in
    let two = subst (λ (k : ℕ). AreNumbered (IsPointRow k i.markers) other h.others others) attributes one in
    let three = subst (λ (k : ℕ). AreNumbered (IsPointRow h.attributes k) other h.others others) markers two in
    let bases = sym (points_base rows base points h) ∙ points_base rows other others i in
    let one_of = one_point h.attributes h.markers in
    (bases, one_items (IsPointRow h.attributes h.markers) one_of h.others base other points others h.each three)

-- rows spell one list of cells over points from a base
pub one_cell_list : (rows : List Row) (points : List Point) (base : ℕ) (cells others : List RawCell) → Cells rows points base cells
    → Cells rows points base others → cells ≡ others
one_cell_list rows points base cells others h i =
    let same : h.header ∷ h.others ≡ i.header ∷ i.others = sym h.rows_are ∙ i.rows_are in
    let header : h.header ≡ i.header = cc (same) in
    let rest : h.others ≡ i.others = cc (same) in
    let mine = ele_counts h.header.words (length cells) h.attributes h.header_is in
    let theirs = ele_counts i.header.words (length others) i.attributes i.header_is in
    let numbers : ele_numbers i.header.words ≡ ele_numbers h.header.words = ap (λ (r : Row). ele_numbers r.words) (sym header) in
    let attributes : i.attributes ≡ h.attributes = sym theirs.1 ∙ (ap (λ (l : List ℤ). nat_abs (number_at l 2)) numbers ∙ mine.1) in
    let one = subst (λ (l : List Row). AreNumbered (IsCellRow (cell_form i.attributes (length points) base)) i.first l others) (sym rest) i.each in
    let two = subst (λ (k : ℕ). AreNumbered (IsCellRow (cell_form k (length points) base)) i.first h.others others) attributes one in
    let one_of = one_cell h.attributes (length points) base in
    one_items (IsCellRow (cell_form h.attributes (length points) base)) one_of h.others h.first i.first cells others h.each two

-- ---- no fault

-- the tests of a point's row, by its place
abbrev pub point_tests : ℕ → ℕ → ℕ → ℕ → ℕ → List (List ℕ) → List (Option MeshWhat)
point_tests count attributes markers base place words = row_tests count place (point_words attributes markers (base + place)) words

pub point_kind : (count attributes markers base : ℕ)
    → IsKind count base (point_tests count attributes markers base) (IsPointRow attributes markers)
point_kind count attributes markers base =
    let expected : ℕ → List Word = λ place. point_words attributes markers (base + place) in
    record {
      spelled_item = λ place words h. let r = row_spelled count place (expected place) words h in
          (r.0, point_spelled attributes markers (base + place) words r.1);
      item_passes = λ place words item lt h. row_passes count place (expected place) words lt
          (point_passes attributes markers (base + place) words item h);
    }

-- a node file with no fault spells some points
pub node_spelled : (last : ℕ) (rows : List Row) → first_some (node_tests last rows) ≡ None
    → (base : ℕ) × (points : List Point) × Points rows base points
node_spelled last [] e = cc
node_spelled last (header ∷ others) e =
    let numbers : List ℤ = node_numbers header.words in
    let base : ℕ = first_number others in
    let count : ℕ = nat_abs (number_at numbers 0) in
    let attributes : ℕ = nat_abs (number_at numbers 2) in
    let markers : ℕ = nat_abs (number_at numbers 3) in
    let f = file_spelled Node (number_at numbers 0) (node_header_tests header.words) (node_row_tests numbers base) last header others e in
    let kind = point_kind count attributes markers base in
    let items = rows_spelled kind others 0 base (omega arith) f.1 in
    let within = rows_within kind others 0 (omega arith) f.1 in
    let length_is = numbered_length (IsPointRow attributes markers) base others items.0 items.1 in
    let count_is : count ≡ length items.0 = omega (arith, f.2) in (
      base,
      items.0,
      record {
        header = header;
        others = others;
        attributes = attributes;
        markers = markers;
        rows_are = refl;
        header_is = subst (λ (k : ℕ). IsNodeHeader header.words k attributes markers) count_is (node_header_spelled header.words f.0);
        base_is = first_number_fits others;
        base_of_none = λ none. first_of_none others (sym length_is ∙ none);
        each = items.1;
      },
    )

-- the tests of a node file that spells points find nothing
node_rows_passes : (last : ℕ) (header : Row) (others : List Row) (base : ℕ) (points : List Point) (attributes markers : ℕ)
    → IsNodeHeader header.words (length points) attributes markers
    → first_number others ≡ base → AreNumbered (IsPointRow attributes markers) base others points
    → first_some (node_tests last (header ∷ others)) ≡ None
node_rows_passes last header others base points attributes markers is base_is each =
    let numbers : List ℤ = node_numbers header.words in
    let counts = node_counts header.words (length points) attributes markers is in
    let one = subst (λ (k : ℕ). AreNumbered (IsPointRow k markers) base others points) (sym counts.1) each in
    let two = subst (λ (k : ℕ). AreNumbered (IsPointRow (nat_abs (number_at numbers 2)) k) base others points) (sym counts.2) one in
    let length_is = numbered_length (IsPointRow attributes markers) base others points each in
    let count : ℕ = nat_abs (number_at numbers 0) in
    let kind = point_kind count (nat_abs (number_at numbers 2)) (nat_abs (number_at numbers 3)) (first_number others) in
    let number : base ≡ first_number others + 0 = omega (arith, base_is) in
    let within : 0 + length others ≤ count = omega (arith, counts.0) in
    let pass = rows_passes kind others points 0 base number within two in
    let head = node_header_passes header.words (length points) attributes markers is in
    let tests = node_row_tests numbers (first_number others) in
    file_passes Node (number_at numbers 0) (node_header_tests header.words) tests last header others head pass (omega (arith, counts.0))

pub node_passes : (last : ℕ) (rows : List Row) (base : ℕ) (points : List Point) → Points rows base points
    → first_some (node_tests last rows) ≡ None
node_passes last rows base points h =
    let base_is = point_first h.attributes h.markers base h.others points h.base_is h.base_of_none h.each in
    ap (λ (l : List Row). first_some (node_tests last l)) h.rows_are
    ∙ node_rows_passes last h.header h.others base points h.attributes h.markers h.header_is base_is h.each

-- the tests of a cell's row, by its place
abbrev different_test : ℕ → List (List ℕ) → Option MeshWhat
different_test base words = unless (are_different (row_corners base words)) CornerTwice

abbrev pub cell_tests : ℕ → ℕ → ℕ → ℕ → ℕ → ℕ → List (List ℕ) → List (Option MeshWhat)
cell_tests count attributes points base own place words =
    row_tests count place (cell_words attributes points base (own + place)) words ++ different_test base words ∷ []

pub cell_kind : (count attributes points base own : ℕ)
    → IsKind count own (cell_tests count attributes points base own) (IsCellRow (cell_form attributes points base))
cell_kind count attributes points base own =
    let expected : ℕ → List Word = λ place. cell_words attributes points base (own + place) in
    record {
      spelled_item = λ place words h.
          let parts = append_none (row_tests count place (expected place) words) (different_test base words ∷ []) h in
          let r = row_spelled count place (expected place) words parts.0 in
          let different = unless_none (are_different (row_corners base words)) CornerTwice parts.1.0 in
          (r.0, cell_spelled attributes points base (own + place) words r.1 different);
      item_passes = λ place words item lt h.
          let c = cell_passes attributes points base (own + place) words item h in
          let row = row_passes count place (expected place) words lt c.0 in
          let passes = none_unless (are_different (row_corners base words)) CornerTwice c.1 in
          let different : FindNone (different_test base words ∷ []) = (passes, tt) in
          none_append (row_tests count place (expected place) words) (different_test base words ∷ []) row different;
    }

-- an ele file over points with no fault spells some cells
pub ele_spelled : (points : List Point) (base last : ℕ) (rows : List Row) → first_some (ele_tests (length points) base last rows) ≡ None
    → (cells : List RawCell) × Cells rows points base cells
ele_spelled points base last [] e = cc
ele_spelled points base last (header ∷ others) e =
    let numbers : List ℤ = ele_numbers header.words in
    let own : ℕ = first_number others in
    let count : ℕ = nat_abs (number_at numbers 0) in
    let attributes : ℕ = nat_abs (number_at numbers 2) in
    let tests = ele_row_tests (length points) base numbers own in
    let f = file_spelled Ele (number_at numbers 0) (ele_header_tests header.words) tests last header others e in
    let kind = cell_kind count attributes (length points) base own in
    let items = rows_spelled kind others 0 own (omega arith) f.1 in
    let within = rows_within kind others 0 (omega arith) f.1 in
    let length_is = numbered_length (IsCellRow (cell_form attributes (length points) base)) own others items.0 items.1 in
    let count_is : count ≡ length items.0 = omega (arith, f.2) in (
      items.0,
      record {
        header = header;
        others = others;
        attributes = attributes;
        first = own;
        rows_are = refl;
        header_is = subst (λ (k : ℕ). IsEleHeader header.words k attributes) count_is (ele_header_spelled header.words f.0);
        first_is = first_number_fits others;
        each = items.1;
      },
    )

-- the rows of cells pass, numbered from the number that the tests take from the first
cells_pass : (count attributes points base start : ℕ) (rows : List Row) (cells : List RawCell) → start ≤ 1 → length rows ≤ count
    → AreNumbered (IsCellRow (cell_form attributes points base)) start rows cells
    → AllPass (cell_tests count attributes points base (first_number rows)) 0 rows
cells_pass count attributes points base start [] cells le within each = tt
cells_pass count attributes points base start (row ∷ rows) cells le within each =
    let own = first_number_is (IsCellRow (cell_form attributes points base)) (cell_number attributes points base) row rows start cells le each in
    let number : start ≡ first_number (row ∷ rows) + 0 = omega (arith, own) in
    let within' : 0 + length (row ∷ rows) ≤ count = omega arith in
    rows_passes (cell_kind count attributes points base (first_number (row ∷ rows))) (row ∷ rows) cells 0 start number within' each

-- the tests of an ele file that spells cells find nothing
ele_rows_passes : (points : List Point) (base last : ℕ) (header : Row) (others : List Row) (cells : List RawCell) (attributes start : ℕ)
    → IsEleHeader header.words (length cells) attributes → start ≤ 1
    → AreNumbered (IsCellRow (cell_form attributes (length points) base)) start others cells
    → first_some (ele_tests (length points) base last (header ∷ others)) ≡ None
ele_rows_passes points base last header others cells attributes start is start_is each =
    let numbers : List ℤ = ele_numbers header.words in
    let counts = ele_counts header.words (length cells) attributes is in
    let one = subst (λ (k : ℕ). AreNumbered (IsCellRow (cell_form k (length points) base)) start others cells) (sym counts.1) each in
    let length_is = numbered_length (IsCellRow (cell_form attributes (length points) base)) start others cells each in
    let count : ℕ = nat_abs (number_at numbers 0) in
    let within : length others ≤ count = omega (arith, counts.0) in
    let pass = cells_pass count (nat_abs (number_at numbers 2)) (length points) base start others cells start_is within one in
    let head = ele_header_passes header.words (length cells) attributes is in
    let tests = ele_row_tests (length points) base numbers (first_number others) in
    file_passes Ele (number_at numbers 0) (ele_header_tests header.words) tests last header others head pass (omega (arith, counts.0))

pub ele_passes : (points : List Point) (base last : ℕ) (rows : List Row) (cells : List RawCell) → Cells rows points base cells
    → first_some (ele_tests (length points) base last rows) ≡ None
ele_passes points base last rows cells h =
    ap (λ (l : List Row). first_some (ele_tests (length points) base last l)) h.rows_are
    ∙ ele_rows_passes points base last h.header h.others cells h.attributes h.first h.header_is h.first_is h.each
