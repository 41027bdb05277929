-- An ele file as it is read: its faults and its cells, from the header and the rows that the code has, and the whole mesh.
use Rattle.std.proofs.Common.{◌≡◌, ℕ, ◌+◌, ◌<◌, ◌≤◌, true, Some, None, List, [], ◌∷◌, map, take, drop, length, slice_index, refl, sym, ap, subst, ◌∙◌, arith}
use Rattle.std.specs.Prelude.{ℤ, pos, nat_abs, Result, Ok, Err}
use Rattle.std.specs.List.{AllByRecursion}
use Rattle.std.specs.Option.{option_map}
use Rattle.std.proofs.lemmas.List.{get_or-map}
use Rattle.liszt_base.specs.Corners.{are_different, FitTogether, IsCell, IsMesh}
use Rattle.liszt_base.specs.declared.answers.MeshFault.{MeshFault}
use Rattle.liszt_base.specs.declared.answers.MeshFile.TheVariants.{Ele}
use Rattle.liszt_base.specs.declared.answers.MeshWhat.{MeshWhat}
use Rattle.liszt_base.specs.declared.answers.MeshWhat.TheVariants.{Missing}
use Rattle.liszt_base.specs.declared.mesh.Point.{Point}
use Rattle.liszt_base.specs.declared.mesh.RawCell.{RawCell}
use Rattle.text_scan.specs.Rows.{Row, TextRows, text_rows}
use Rattle.text_scan.specs.Rows.{row_at}
use Rattle.tet_reader.specs.Tests.{first_some}
use Rattle.tet_reader.specs.Headers.{IsEleHeader, ele_numbers, number_at, ele_header_tests}
use Rattle.tet_reader.specs.Points.{AreNumbered, IsCellRow, Points, Cells}
use Rattle.tet_reader.specs.Faults.{fault_at, first_number, file_tests, ele_tests, ele_fault, whole_tests, node_fault, cells_fault, mesh_fault, first_mesh_fault}
use Rattle.tet_reader.specs.Internal.FirstMisfit.{first_misfit}
use Rattle.liszt_base.specs.MeshLists.{MeshLists}
use Rattle.liszt_base.specs.declared.mesh.PointTable.{PointTable}
use Rattle.liszt_base.specs.declared.answers.Refused.{Refused}
use Rattle.liszt_base.specs.declared.answers.Refused.TheVariants.{Fault, NoMemory}
use Rattle.tet_reader.specs.Answers.{SpellMesh, Reads, SpelledBy}
use Rattle.tet_reader.specs.Internal.RowReading.{HeadsEle}
use Rattle.tet_reader.specs.declared.headers.EleHeader.{EleHeader}
use Rattle.tet_reader.specs.declared.misfit.Misfit.{Misfit}
use Rattle.tet_reader.proofs.Forms.{cell_form, file_form}
use Rattle.tet_reader.proofs.HeaderTests.{ele_header_passes, ele_counts}
use Rattle.tet_reader.proofs.Lists.{cell_tests, cell_kind, ele_spelled, ele_passes, one_cell_list}
use Rattle.tet_reader.proofs.NodeReading.{row_after_header}
use Rattle.tet_reader.proofs.RowLists.{AllPass, rows_within, rows_passes, numbered_length, first_number_fits}
use Rattle.tet_reader.proofs.RowReadingLemmas.{row_fault, missing_fault}
use Rattle.tet_reader.proofs.Tests.{each_none, first_none}
use Rattle.tet_reader.proofs.WholeFaultLemmas.{misfit_fault, first_whole_fault}
use Rattle.tet_reader.proofs.WholeMeshLemmas.{CellCorners, cells_corners, whole_spelled, whole_passes, same_faults}

-- the tests of the file are those of the header's counts
ele_same : (points base last : ℕ) (header : Row) (others : List Row) (h : EleHeader) (own : ℕ) → IsEleHeader header.words h.cells h.attributes
    → own ≡ first_number others
    → first_some (ele_tests points base last (header ∷ others))
    ≡ first_some (file_tests (file_form Ele (pos h.cells) (ele_header_tests header.words) (cell_tests h.cells h.attributes points base own)) last header others)
ele_same points base last header others h own is own_is =
    let numbers : List ℤ = ele_numbers header.words in
    let head = ele_header_tests header.words in
    let first_is : ℕ = first_number others in
    let counts = ele_counts header.words h.cells h.attributes is in
    let count : number_at numbers 0 ≡ pos h.cells = ap (λ (l : List ℤ). number_at l 0) is.numbers in
    ap (λ (k : ℕ). first_some (file_tests (file_form Ele (number_at numbers 0) head (cell_tests k (nat_abs (number_at numbers 2)) points base first_is)) last header others)) counts.0
    ∙ (ap (λ (k : ℕ). first_some (file_tests (file_form Ele (number_at numbers 0) head (cell_tests h.cells k points base first_is)) last header others)) counts.1
    ∙ (ap (λ (k : ℕ). first_some (file_tests (file_form Ele (number_at numbers 0) head (cell_tests h.cells h.attributes points base k)) last header others)) (sym own_is)
    ∙ ap (λ (z : ℤ). first_some (file_tests (file_form Ele z head (cell_tests h.cells h.attributes points base own)) last header others)) count))

-- a row's fault is the file's
pub ele_row_fault : (points base last : ℕ) (rows : List Row) (h : EleHeader) (own place : ℕ) (what : MeshWhat) (line : ℕ) (found : MeshFault) → HeadsEle rows h
    → own ≡ first_number (drop 1 rows) → place < length (drop 1 rows)
    → AllPass (cell_tests h.cells h.attributes points base own) 0 (take place (drop 1 rows))
    → first_some (cell_tests h.cells h.attributes points base own place (row_at rows (place + 1)).words) ≡ Some what
    → line ≡ (row_at rows (place + 1)).line → found ≡ fault_at Ele (pos h.cells) line what → first_some (ele_tests points base last rows) ≡ Some found
ele_row_fault points base last [] h own place what line found heads own_is lt pass wrong line_is e = absurd (omega arith)
ele_row_fault points base last (header ∷ others) h own place what line found heads own_is lt pass wrong line_is e =
    let row = row_after_header header others place in
    let tests = cell_tests h.cells h.attributes points base own in
    let wrong' : first_some (tests place (row_at others place).words) ≡ Some what = ap (λ r. first_some (tests place r.words)) (sym row) ∙ wrong in
    let head = ele_header_passes header.words h.cells h.attributes heads.1 in
    let line_is' : line ≡ (row_at others place).line = line_is ∙ ap (λ r. r.line) row in
    ele_same points base last header others h own heads.1 own_is
    ∙ (row_fault Ele (pos h.cells) (ele_header_tests header.words) tests last header others place what head lt pass wrong'
    ∙ ap Some (ap (λ l. fault_at Ele (pos h.cells) l what) (sym line_is') ∙ sym e))

-- no more rows pass than the count
pub cells_within : (points base : ℕ) (rows : List Row) (h : EleHeader) (own : ℕ) → AllPass (cell_tests h.cells h.attributes points base own) 0 rows
    → length rows ≤ h.cells
cells_within points base rows h own pass =
    let w = rows_within (cell_kind h.cells h.attributes points base own) rows 0 (omega arith) pass in omega (arith, w)

-- too few rows
pub ele_missing : (points base last : ℕ) (rows : List Row) (h : EleHeader) (own : ℕ) (cells : List RawCell) (found : MeshFault) → HeadsEle rows h
    → own ≡ first_number (drop 1 rows) → AreNumbered (IsCellRow (cell_form h.attributes points base)) own (drop 1 rows) cells → length cells < h.cells
    → found ≡ fault_at Ele (pos h.cells) last Missing → first_some (ele_tests points base last rows) ≡ Some found
ele_missing points base last [] h own cells found heads own_is each few e = absurd (omega (arith, heads.0))
ele_missing points base last (header ∷ others) h own cells found heads own_is each few e =
    let count = numbered_length (IsCellRow (cell_form h.attributes points base)) own others cells each in
    let head = ele_header_passes header.words h.cells h.attributes heads.1 in
    let pass = rows_passes (cell_kind h.cells h.attributes points base own) others cells 0 own (omega arith) (omega (arith, count)) each in
    ele_same points base last header others h own heads.1 own_is
    ∙ (missing_fault Ele (pos h.cells) (ele_header_tests header.words) (cell_tests h.cells h.attributes points base own) last header others head pass
    (omega (arith, count)) ∙ ap Some (sym e))

-- the cells
pub ele_spells : (points : List Point) (base : ℕ) (rows : List Row) (h : EleHeader) (own : ℕ) (cells : List RawCell) → HeadsEle rows h
    → own ≡ first_number (drop 1 rows) → AreNumbered (IsCellRow (cell_form h.attributes (length points) base)) own (drop 1 rows) cells
    → length (drop 1 rows) ≤ h.cells → h.cells ≤ length cells → Cells rows points base cells
ele_spells points base [] h own cells heads own_is each within enough = absurd (omega (arith, heads.0))
ele_spells points base (header ∷ others) h own cells heads own_is each within enough =
    let count = numbered_length (IsCellRow (cell_form h.attributes (length points) base)) own others cells each in
    let same : h.cells ≡ length cells = omega (arith, count) in
    record {
      header = header;
      others = others;
      attributes = h.attributes;
      first = own;
      rows_are = refl;
      header_is = subst (λ (k : ℕ). IsEleHeader header.words k h.attributes) same heads.1;
      first_is = omega (arith, first_number_fits others, own_is);
      each = each;
    }

-- ---- the whole mesh

-- the corners of cells that are spelled are four different ones
abbrev pub OfCells : List RawCell → Type 0
OfCells cells = AllByRecursion (λ cell. (length cell.corners ≡ 4) × (are_different cell.corners ≡ true)) cells

pub corners_fit : (rows : List Row) (points : List Point) (base : ℕ) (cells : List RawCell) → Cells rows points base cells
    → AllByRecursion (λ cell. (length cell.corners ≡ 4) × (are_different cell.corners ≡ true)) cells
corners_fit rows points base cells h = go cells (cells_corners rows points base cells h).1
  where
    go : (cells : List RawCell) → AllByRecursion (IsCell (length points)) (CellCorners cells)
        → AllByRecursion (λ cell. (length cell.corners ≡ 4) × (are_different cell.corners ≡ true)) cells
    go [] h = tt
    go (cell ∷ cells) h = ((h.0.0, h.0.1), go cells h.1)

-- as many rows as cells
pub cells_count : (rows : List Row) (points : List Point) (base : ℕ) (cells : List RawCell) → Cells rows points base cells
    → length rows ≡ length cells + 1
cells_count rows points base cells h =
    let count = numbered_length (IsCellRow (cell_form h.attributes (length points) base)) h.first h.others cells h.each in
    omega (arith, ap length h.rows_are, count)

-- the fault of the ele file over a mesh's points is that of the first misfit
pub misfit_is : (points : List Point) (base : ℕ) (ele : TextRows) (cells : List RawCell) → ele_fault (length points) base ele ≡ None
    → Cells ele.rows points base cells
    → cells_fault (length points) base ele ≡ option_map (misfit_fault (drop 1 ele.rows)) (first_misfit (CellCorners cells))
misfit_is points base ele cells none h =
    let corners = (cells_corners ele.rows points base cells h).0 in
    let whole = first_whole_fault base (drop 1 ele.rows) in
    ap (λ o. first_some (o ∷ whole_tests base (drop 1 ele.rows))) none
    ∙ (whole ∙ ap (λ l. option_map (misfit_fault (drop 1 ele.rows)) (first_misfit l)) corners)

-- a misfit is among the cells
pub misfit_line : (rows : List Row) (m : Misfit) (line : ℕ) (found : MeshFault) → 0 < length rows → line ≡ (row_at rows (m.place + 1)).line
    → m.place + 1 < length rows → found ≡ fault_at Ele (pos 0) line m.what → misfit_fault (drop 1 rows) m ≡ found
misfit_line [] m line found some line_is inside e = absurd (omega arith)
misfit_line (header ∷ others) m line found some line_is inside e =
    let line_is' : line ≡ (row_at others m.place).line = line_is ∙ ap (λ r. r.line) (row_after_header header others m.place) in
    let none : Row = record { line = 0; words = [] } in
    let at : slice_index (map (λ row. row.line) others) m.place ≡ line =
    get_or-map (λ (row : Row). row.line) others m.place none 0 (omega arith) ∙ sym line_is' in
    ap (λ l. fault_at Ele (pos 0) l m.what) at ∙ sym e

-- without a misfit it is a mesh
pub mesh_fits : (points : List Point) (base : ℕ) (ele : TextRows) (cells : List RawCell) → ele_fault (length points) base ele ≡ None
    → Cells ele.rows points base cells → None ≡ first_misfit (CellCorners cells)
    → (cells_fault (length points) base ele ≡ None) × IsMesh (length points) (CellCorners cells)
mesh_fits points base ele cells none h no_misfit =
    let corners = cells_corners ele.rows points base cells h in
    let fault = misfit_is points base ele cells none h ∙ ap (option_map (misfit_fault (drop 1 ele.rows))) (sym no_misfit) in
    let whole : first_some (whole_tests base (drop 1 ele.rows)) ≡ None = sym (ap (λ o. first_some (o ∷ whole_tests base (drop 1 ele.rows))) none) ∙ fault in
    let together = whole_spelled base (drop 1 ele.rows) (each_none (whole_tests base (drop 1 ele.rows)) whole) in
    (fault, record { each = corners.1; together = subst (λ l. FitTogether l) corners.0 together })

-- the mesh of the points and the cells is the one that is spelled
pub made_mesh : (table : PointTable) (ele : TextRows) (cells : List RawCell) (mesh : MeshLists)
    → mesh ≡ record { points = table.list; cells = cells; base = table.base } → Cells ele.rows table.list table.base cells
    → IsMesh (length table.list) (CellCorners cells) → SpellMesh table ele mesh
made_mesh table ele cells mesh e h fits = record {
  points_are = ap (λ m. m.points) e;
  base_is = ap (λ m. m.base) e;
  cells = subst (λ l. Cells ele.rows table.list table.base l) (sym (ap (λ m. m.cells) e)) h;
  fits = subst (λ l. IsMesh (length table.list) (CellCorners l)) (sym (ap (λ m. m.cells) e)) fits;
}

-- both files, after the points were read
pub mesh_read : (node_bytes ele_bytes : List ℕ) (node ele : TextRows) (table : PointTable) (result : Result MeshLists (Refused MeshFault))
    → node ≡ text_rows node_bytes → ele ≡ text_rows ele_bytes → node_fault node ≡ None → Points node.rows table.base table.list
    → Reads (SpellMesh table ele) (cells_fault (length table.list) table.base ele) result
    → Reads (SpelledBy node_bytes ele_bytes) (first_mesh_fault node_bytes ele_bytes) result
mesh_read node_bytes ele_bytes node ele table result p q none points read =
    let same : first_mesh_fault node_bytes ele_bytes ≡ mesh_fault node ele = cc (ap (λ n. mesh_fault n (text_rows ele_bytes)) p, ap (mesh_fault node) q) in
    let faults = same_faults node ele table.base table.list points in
    let rest : mesh_fault node ele ≡ cells_fault (length table.list) table.base ele =
    faults ∙ ap (λ o. first_some (o ∷ ele_fault (length table.list) table.base ele ∷ whole_tests table.base (drop 1 ele.rows))) none in
    go result (same ∙ rest) read
  where
    go : (r : Result MeshLists (Refused MeshFault)) → first_mesh_fault node_bytes ele_bytes ≡ cells_fault (length table.list) table.base ele
        → Reads (SpellMesh table ele) (cells_fault (length table.list) table.base ele) r
        → Reads (SpelledBy node_bytes ele_bytes) (first_mesh_fault node_bytes ele_bytes) r
    go (Ok mesh) e h =
        (e ∙ h.0, (table, subst (λ n. Points n.rows table.base table.list) p points, subst (λ n. SpellMesh table n mesh) q h.1))
    go (Err (Fault found)) e h = e ∙ h
    go (Err NoMemory) e h = tt

-- Over points, an ele file has no fault exactly where it spells a mesh.
pub mesh_spelled_over : (table : PointTable) (ele : TextRows) → cells_fault (length table.list) table.base ele ≡ None
    → (mesh : MeshLists) × SpellMesh table ele mesh
mesh_spelled_over table ele e =
    let all = each_none (ele_fault (length table.list) table.base ele ∷ whole_tests table.base (drop 1 ele.rows)) e in
    let cells = ele_spelled table.list table.base ele.last_line ele.rows all.0 in
    let corners = cells_corners ele.rows table.list table.base cells.0 cells.1 in
    let together = whole_spelled table.base (drop 1 ele.rows) all.1 in
    let mesh : MeshLists = record { points = table.list; cells = cells.0; base = table.base } in
    (mesh, made_mesh table ele cells.0 mesh refl cells.1 (record { each = corners.1; together = subst (λ l. FitTogether l) corners.0 together }))

pub mesh_passes_over : (table : PointTable) (ele : TextRows) (mesh : MeshLists) → SpellMesh table ele mesh
    → cells_fault (length table.list) table.base ele ≡ None
mesh_passes_over table ele mesh s =
    let corners = cells_corners ele.rows table.list table.base mesh.cells s.cells in
    let whole = whole_passes table.base (drop 1 ele.rows) (subst (λ l. FitTogether l) (sym corners.0) s.fits.together) in
    let none = ele_passes table.list table.base ele.last_line ele.rows mesh.cells s.cells in
    first_none (ele_fault (length table.list) table.base ele ∷ whole_tests table.base (drop 1 ele.rows)) (none, whole)

-- and one mesh
pub one_mesh_over : (table : PointTable) (ele : TextRows) (mesh other : MeshLists) → SpellMesh table ele mesh → SpellMesh table ele other → mesh ≡ other
one_mesh_over table ele mesh other s t =
    let cells = one_cell_list ele.rows table.list table.base mesh.cells other.cells s.cells t.cells in
    let points : mesh.points ≡ other.points = s.points_are ∙ sym t.points_are in
    let base : mesh.base ≡ other.base = s.base_is ∙ sym t.base_is in
    same_mesh mesh.points mesh.cells mesh.base other.points other.cells other.base points cells base
  where
    same_mesh : (p : List Point) (c : List RawCell) (b : ℕ) (p' : List Point) (c' : List RawCell) (b' : ℕ) → p ≡ p' → c ≡ c' → b ≡ b'
        → ◌≡◌ {A = MeshLists} (record { points = p; cells = c; base = b }) (record { points = p'; cells = c'; base = b' })
    same_mesh p c b p' c' b' x y z =
        let one : ◌≡◌ {A = MeshLists} (record { points = p; cells = c; base = b }) (record { points = p'; cells = c; base = b }) = ap (λ l. record { points = l; cells = c; base = b }) x in
        let two : ◌≡◌ {A = MeshLists} (record { points = p'; cells = c; base = b }) (record { points = p'; cells = c'; base = b }) = ap (λ l. record { points = p'; cells = l; base = b }) y in
        one ∙ (two ∙ ap (λ l. record { points = p'; cells = c'; base = l }) z)
