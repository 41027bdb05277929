-- A node file as it is read: its faults and its points, from the header and the rows that the code has.
use Rattle.std.proofs.Common.{◌≡◌, ℕ, suc, ◌+◌, ◌<◌, ◌≤◌, Some, List, [], ◌∷◌, take, drop, length, refl, sym, ap, subst, ◌∙◌, arith}
use Rattle.std.specs.Prelude.{ℤ, pos, nat_abs}
use Rattle.liszt_base.specs.declared.answers.MeshFault.{MeshFault}
use Rattle.liszt_base.specs.declared.answers.MeshFile.TheVariants.{Node}
use Rattle.liszt_base.specs.declared.answers.MeshWhat.{MeshWhat}
use Rattle.liszt_base.specs.declared.answers.MeshWhat.TheVariants.{Missing}
use Rattle.liszt_base.specs.declared.mesh.Point.{Point}
use Rattle.text_scan.specs.Rows.{Row}
use Rattle.text_scan.specs.Rows.{row_at}
use Rattle.tet_reader.specs.Tests.{first_some, row_tests}
use Rattle.tet_reader.specs.Headers.{IsNodeHeader, node_numbers, number_at, node_header_tests}
use Rattle.tet_reader.specs.Points.{AreNumbered, IsPointRow, Points}
use Rattle.tet_reader.specs.Faults.{fault_at, first_number, point_words, file_tests, node_tests}
use Rattle.tet_reader.specs.Internal.RowReading.{HeadsNode}
use Rattle.tet_reader.specs.declared.headers.NodeHeader.{NodeHeader}
use Rattle.tet_reader.proofs.Forms.{file_form}
use Rattle.tet_reader.proofs.HeaderTests.{node_header_passes, node_counts}
use Rattle.tet_reader.proofs.Lists.{point_tests, point_kind, first_of_none}
use Rattle.tet_reader.proofs.RowLists.{AllPass, rows_within, rows_passes, numbered_length, first_number_fits}
use Rattle.tet_reader.proofs.RowReadingLemmas.{row_fault, missing_fault}

-- the row after the header at a place
pub row_after_header : (header : Row) (others : List Row) (place : ℕ) → row_at (header ∷ others) (place + 1) ≡ row_at others place
row_after_header header others place = let at : place + 1 ≡ suc place = omega arith in ap (row_at (header ∷ others)) at

pub after_first : (rows : List Row) (place : ℕ) → 0 < length rows → row_at rows (place + 1) ≡ row_at (drop 1 rows) place
after_first [] place some = absurd (omega arith)
after_first (header ∷ others) place some = row_after_header header others place

-- the tests of the file are those of the header's counts
node_same : (last : ℕ) (header : Row) (others : List Row) (h : NodeHeader) (base : ℕ) → IsNodeHeader header.words h.points h.attributes h.markers
    → base ≡ first_number others
    → first_some (node_tests last (header ∷ others))
    ≡ first_some (file_tests (file_form Node (pos h.points) (node_header_tests header.words) (point_tests h.points h.attributes h.markers base)) last header others)
node_same last header others h base is base_is =
    let numbers : List ℤ = node_numbers header.words in
    let head = node_header_tests header.words in
    let own : ℕ = first_number others in
    let counts = node_counts header.words h.points h.attributes h.markers is in
    let count : number_at numbers 0 ≡ pos h.points = ap (λ (l : List ℤ). number_at l 0) is.numbers in
    ap (λ (k : ℕ). first_some (file_tests (file_form Node (number_at numbers 0) head (point_tests k (nat_abs (number_at numbers 2)) (nat_abs (number_at numbers 3)) own)) last header others)) counts.0
    ∙ (ap (λ (k : ℕ). first_some (file_tests (file_form Node (number_at numbers 0) head (point_tests h.points k (nat_abs (number_at numbers 3)) own)) last header others)) counts.1
    ∙ (ap (λ (k : ℕ). first_some (file_tests (file_form Node (number_at numbers 0) head (point_tests h.points h.attributes k own)) last header others)) counts.2
    ∙ (ap (λ (k : ℕ). first_some (file_tests (file_form Node (number_at numbers 0) head (point_tests h.points h.attributes h.markers k)) last header others)) (sym base_is)
    ∙ ap (λ (z : ℤ). first_some (file_tests (file_form Node z head (point_tests h.points h.attributes h.markers base)) last header others)) count)))

-- a row's fault is the file's
pub node_row_fault : (last : ℕ) (rows : List Row) (h : NodeHeader) (base place : ℕ) (what : MeshWhat) (line : ℕ) (found : MeshFault) → HeadsNode rows h
    → base ≡ first_number (drop 1 rows) → place < length (drop 1 rows)
    → AllPass (point_tests h.points h.attributes h.markers base) 0 (take place (drop 1 rows))
    → first_some (row_tests h.points place (point_words h.attributes h.markers (base + place)) (row_at rows (place + 1)).words) ≡ Some what
    → line ≡ (row_at rows (place + 1)).line → found ≡ fault_at Node (pos h.points) line what → first_some (node_tests last rows) ≡ Some found
node_row_fault last [] h base place what line found heads base_is lt pass wrong line_is e = absurd (omega arith)
node_row_fault last (header ∷ others) h base place what line found heads base_is lt pass wrong line_is e =
    let row = row_after_header header others place in
    let tests = point_tests h.points h.attributes h.markers base in
    let wrong' : first_some (tests place (row_at others place).words) ≡ Some what = ap (λ r. first_some (tests place r.words)) (sym row) ∙ wrong in
    let head = node_header_passes header.words h.points h.attributes h.markers heads.1 in
    let line_is' : line ≡ (row_at others place).line = line_is ∙ ap (λ r. r.line) row in
    node_same last header others h base heads.1 base_is
    ∙ (row_fault Node (pos h.points) (node_header_tests header.words) tests last header others place what head lt pass wrong'
    ∙ ap Some (ap (λ l. fault_at Node (pos h.points) l what) (sym line_is') ∙ sym e))

-- no more rows pass than the count
pub points_within : (rows : List Row) (h : NodeHeader) (base : ℕ) → AllPass (point_tests h.points h.attributes h.markers base) 0 rows
    → length rows ≤ h.points
points_within rows h base pass = let w = rows_within (point_kind h.points h.attributes h.markers base) rows 0 (omega arith) pass in omega (arith, w)

-- too few rows
pub node_missing : (last : ℕ) (rows : List Row) (h : NodeHeader) (base : ℕ) (points : List Point) (found : MeshFault) → HeadsNode rows h
    → base ≡ first_number (drop 1 rows) → AreNumbered (IsPointRow h.attributes h.markers) base (drop 1 rows) points → length points < h.points
    → found ≡ fault_at Node (pos h.points) last Missing → first_some (node_tests last rows) ≡ Some found
node_missing last [] h base points found heads base_is each few e = absurd (omega (arith, heads.0))
node_missing last (header ∷ others) h base points found heads base_is each few e =
    let count = numbered_length (IsPointRow h.attributes h.markers) base others points each in
    let head = node_header_passes header.words h.points h.attributes h.markers heads.1 in
    let kind = point_kind h.points h.attributes h.markers base in
    let pass = rows_passes kind others points 0 base (omega arith) (omega (arith, count)) each in
    node_same last header others h base heads.1 base_is
    ∙ (missing_fault Node (pos h.points) (node_header_tests header.words) (point_tests h.points h.attributes h.markers base) last header others head pass
    (omega (arith, count)) ∙ ap Some (sym e))

-- the points
pub node_spells : (rows : List Row) (h : NodeHeader) (base : ℕ) (points : List Point) → HeadsNode rows h → base ≡ first_number (drop 1 rows)
    → AreNumbered (IsPointRow h.attributes h.markers) base (drop 1 rows) points → length (drop 1 rows) ≤ h.points → h.points ≤ length points
    → Points rows base points
node_spells [] h base points heads base_is each within enough = absurd (omega (arith, heads.0))
node_spells (header ∷ others) h base points heads base_is each within enough =
    let count = numbered_length (IsPointRow h.attributes h.markers) base others points each in
    let same : h.points ≡ length points = omega (arith, count) in
    record {
      header = header;
      others = others;
      attributes = h.attributes;
      markers = h.markers;
      rows_are = refl;
      header_is = subst (λ (k : ℕ). IsNodeHeader header.words k h.attributes h.markers) same heads.1;
      base_is = omega (arith, first_number_fits others, base_is);
      base_of_none = λ none. base_is ∙ first_of_none others (sym count ∙ none);
      each = each;
    }
