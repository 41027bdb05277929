-- The first fault of a mesh's two files, in the order of
-- lines and of the tests of each line. This project's own.
use Rattle.std.specs.Prelude.{ℕ, ◌+◌, ◌-◌, nat_le, if◌then◌else◌, Bool, false, Option}
use Rattle.std.specs.Prelude.{Some, None, List, [], ◌∷◌, ◌++◌, map, take, drop, length, ℤ}
use Rattle.std.specs.Prelude.{pos, nat_abs, Result, Ok, Err, replicate, slice_index_or}
use Rattle.std.specs.List.{zip, enumerate_from}
use Rattle.std.specs.Option.{option_map}
use Rattle.liszt_base.specs.Corners.{are_different, along, repeats_earlier, is_third}
use Rattle.liszt_base.specs.declared.answers.MeshFault.{MeshFault}
use Rattle.liszt_base.specs.declared.answers.MeshFile.{MeshFile}
use Rattle.liszt_base.specs.declared.answers.MeshFile.TheVariants.{Node, Ele}
use Rattle.liszt_base.specs.declared.answers.MeshWhat.{MeshWhat}
use Rattle.liszt_base.specs.declared.answers.MeshWhat.TheVariants.{Header, Missing, CornerTwice}
use Rattle.liszt_base.specs.declared.answers.MeshWhat.TheVariants.{CellTwice, FaceShared, TooMany}
use Rattle.text_scan.specs.Numbers.{whole_of}
use Rattle.text_scan.specs.Rows.{Row, TextRows, text_rows}
use Rattle.text_scan.specs.declared.faults.NumberFault.{NumberFault}
use Rattle.tet_reader.specs.Headers.{node_numbers, ele_numbers, node_header_tests}
use Rattle.tet_reader.specs.Headers.{ele_header_tests, number_at}
use Rattle.tet_reader.specs.Tests.{first_some, unless, is_within, row_tests}
use Rattle.tet_reader.specs.declared.words.Word.{Word}
use Rattle.tet_reader.specs.declared.words.Word.TheVariants.{Number, Real, Marker, Corner}

-- The number that a fault reports: the header's count for TooMany, otherwise 0.
abbrev pub reported_count : MeshWhat → ℤ → ℤ
reported_count TooMany count = count
reported_count _ count = pos 0

-- The fault of a line.
abbrev pub fault_at : MeshFile → ℤ → ℕ → MeshWhat → MeshFault
fault_at file count line what =
    record { file = file; line = line; what = what; number = reported_count what count }

-- The number that a word spells, without its sign, and 0 where it spells none.
abbrev pub magnitude_or_zero : Result ℤ NumberFault → ℕ
magnitude_or_zero (Ok z) = nat_abs z
magnitude_or_zero (Err fault) = 0

abbrev pub is_one : Result ℤ NumberFault → Bool
is_one (Ok z) = is_within 1 1 z
is_one (Err fault) = false

-- The number that the first row should have: 1 where it has the number 1, otherwise 0.
abbrev pub first_number : List Row → ℕ
first_number [] = 0
first_number (row ∷ rows) = if is_one (whole_of (slice_index_or row.words 0 [])) then 1 else 0

-- The words that the row of a point should have, and those of the row of a cell.
abbrev pub point_words : ℕ → ℕ → ℕ → List Word
point_words attributes markers number =
    Number number ∷ Real ∷ Real ∷ Real ∷ (replicate attributes Real ++ replicate markers Marker)

abbrev pub cell_words : ℕ → ℕ → ℕ → ℕ → List Word
cell_words attributes points base number =
    Number number ∷ Corner base points ∷ Corner base points ∷ Corner base points
    ∷ Corner base points ∷ replicate attributes Real

-- The corners of a cell's row, as indices of points.
abbrev pub row_corners : ℕ → List (List ℕ) → List ℕ
row_corners base words =
    map (λ word. magnitude_or_zero (whole_of word) - base) (take 4 (drop 1 words))

-- The first fault of the tests of a line, with the line.
abbrev pub line_fault : MeshFile → ℤ → ℕ → List (Option MeshWhat) → Option MeshFault
line_fault file count line tests = option_map (fault_at file count line) (first_some tests)

-- A file by its name, the count of its header, and the tests of the header and of each row after it
-- by its index.
pub record FileForm : Type 0 where
  pub file : MeshFile
  pub count : ℤ
  pub header_tests : List (Option MeshWhat)
  pub tests_of_row : ℕ → List (List ℕ) → List (Option MeshWhat)

-- The tests of a file, line by line: those of the header, those of each row
-- after it by its index, and, at the last line, whether a row is missing.
abbrev pub file_tests : FileForm → ℕ → Row → List Row → List (Option MeshFault)
file_tests form last header rows =
    line_fault form.file form.count header.line form.header_tests
    ∷ (map (λ r. line_fault form.file form.count r.1.line (form.tests_of_row r.0 r.1.words))
    (enumerate_from 0 rows)
    ++ line_fault form.file form.count last
    (unless (nat_le (nat_abs form.count) (length rows)) Missing ∷ []) ∷ [])

-- NODE FILE
abbrev pub node_row_tests : List ℤ → ℕ → ℕ → List (List ℕ) → List (Option MeshWhat)
node_row_tests numbers base place words =
    row_tests (nat_abs (number_at numbers 0)) place
    (point_words (nat_abs (number_at numbers 2)) (nat_abs (number_at numbers 3)) (base + place))
    words

abbrev pub node_tests : ℕ → List Row → List (Option MeshFault)
node_tests last [] = Some (fault_at Node (pos 0) last Header) ∷ []
node_tests last (header ∷ rows) =
    let numbers : List ℤ = node_numbers header.words in
    file_tests (record {
      file = Node;
      count = number_at numbers 0;
      header_tests = node_header_tests header.words;
      tests_of_row = node_row_tests numbers (first_number rows);
    }) last header rows

abbrev pub node_fault : TextRows → Option MeshFault
node_fault text = first_some (node_tests text.last_line text.rows)

-- ELE FILE over n points, the first of which has the number `base`
abbrev pub ele_row_tests : ℕ → ℕ → List ℤ → ℕ → ℕ → List (List ℕ) → List (Option MeshWhat)
ele_row_tests points base numbers own place words =
    row_tests (nat_abs (number_at numbers 0)) place
    (cell_words (nat_abs (number_at numbers 2)) points base (own + place)) words
    ++ unless (are_different (row_corners base words)) CornerTwice ∷ []

abbrev pub ele_tests : ℕ → ℕ → ℕ → List Row → List (Option MeshFault)
ele_tests points base last [] = Some (fault_at Ele (pos 0) last Header) ∷ []
ele_tests points base last (header ∷ rows) =
    let numbers : List ℤ = ele_numbers header.words in
    file_tests (record {
      file = Ele;
      count = number_at numbers 0;
      header_tests = ele_header_tests header.words;
      tests_of_row = ele_row_tests points base numbers (first_number rows);
    }) last header rows

abbrev pub ele_fault : ℕ → ℕ → TextRows → Option MeshFault
ele_fault points base text = first_some (ele_tests points base text.last_line text.rows)

-- WHOLE MESH
-- The fault of a cell's line, where the condition holds.
abbrev pub cell_fault : MeshWhat → Bool × Row → Option MeshFault
cell_fault what cell = if cell.0 then Some (fault_at Ele (pos 0) cell.1.line what) else None

-- First the earliest cell that repeats an earlier one, and
-- then the earliest cell that is the third with some face.
abbrev pub whole_tests : ℕ → List Row → List (Option MeshFault)
whole_tests base rows =
    let cells : List (List ℕ) = map (λ row. row_corners base row.words) rows in
    map (cell_fault CellTwice) (zip (along repeats_earlier [] cells) rows)
    ++ map (cell_fault FaceShared) (zip (along is_third [] cells) rows)

-- The ele file, then the whole mesh.
abbrev pub cells_fault : ℕ → ℕ → TextRows → Option MeshFault
cells_fault points base ele =
    first_some (ele_fault points base ele ∷ whole_tests base (drop 1 ele.rows))

-- BOTH FILES: the node file, then the ele file over its points, then the whole mesh. Where the
-- node file has no fault, the number of its points is the number of rows after the header.
abbrev pub mesh_fault : TextRows → TextRows → Option MeshFault
mesh_fault node ele =
    let base : ℕ = first_number (drop 1 node.rows) in
    first_some (node_fault node ∷ ele_fault (length (drop 1 node.rows)) base ele
    ∷ whole_tests base (drop 1 ele.rows))

abbrev pub first_mesh_fault : List ℕ → List ℕ → Option MeshFault
first_mesh_fault node ele = mesh_fault (text_rows node) (text_rows ele)
