-- Both files have no fault exactly where they spell some points and cells that make a mesh.
use Rattle.std.proofs.Common.{◌≡◌, ℕ, suc, ◌+◌, Bool, true, false, Option, None, List, [], ◌∷◌, ◌++◌, map, drop, length}
use Rattle.std.proofs.Common.{refl, sym, ap, subst, ◌∙◌, arith}
use Rattle.std.specs.List.{list_any, zip, AllByRecursion}
use Rattle.std.proofs.lemmas.List.{length-map}
use Rattle.liszt_base.specs.Corners.{along, repeats_earlier, is_third, FitTogether, IsCell, IsMesh}
use Rattle.liszt_base.specs.declared.answers.MeshFault.{MeshFault}
use Rattle.liszt_base.specs.declared.answers.MeshWhat.{MeshWhat}
use Rattle.liszt_base.specs.declared.answers.MeshWhat.TheVariants.{CellTwice, FaceShared}
use Rattle.liszt_base.specs.declared.mesh.Point.{Point}
use Rattle.liszt_base.specs.declared.mesh.RawCell.{RawCell}
use Rattle.text_scan.specs.Rows.{Row, TextRows}
use Rattle.tet_reader.specs.Tests.{first_some}
use Rattle.tet_reader.specs.Points.{AreNumbered, IsCellRow, Points, Cells}
use Rattle.tet_reader.specs.Faults.{first_number, row_corners, cell_fault, whole_tests, node_fault, ele_fault, mesh_fault}
use Rattle.tet_reader.proofs.Forms.{cell_form}
use Rattle.tet_reader.proofs.Tests.{FindNone, each_none, first_none, none_append, append_none}
use Rattle.tet_reader.proofs.CellRows.{row_corners_are}
use Rattle.tet_reader.proofs.Lists.{points_base, points_count, node_spelled, node_passes, ele_spelled, ele_passes}

-- ---- the tests of the whole mesh

-- there is a test for each member
pub along_length : {A : Type 0} (test : List A → A → Bool) (earlier xs : List A) → length (along test earlier xs) ≡ length xs
along_length test earlier [] = refl
along_length test earlier (x ∷ xs) = ap suc (along_length test (earlier ++ x ∷ []) xs)

-- none of the tests is true
abbrev NoneTrue : List Bool → Type 0
NoneTrue tests = list_any (λ b. b) tests ≡ false

-- no cell has a fault where none of the tests is true
faults_spelled : (what : MeshWhat) (tests : List Bool) (rows : List Row) → length tests ≡ length rows
    → FindNone (map (cell_fault what) (zip tests rows)) → NoneTrue tests
faults_spelled what [] rows l h = refl
faults_spelled what (test ∷ tests) [] l h = absurd (omega arith)
faults_spelled what (true ∷ tests) (row ∷ rows) l h = cc (h.0)
faults_spelled what (false ∷ tests) (row ∷ rows) l h = faults_spelled what tests rows (omega arith) h.1

faults_passes : (what : MeshWhat) (tests : List Bool) (rows : List Row) → NoneTrue tests → FindNone (map (cell_fault what) (zip tests rows))
faults_passes what [] rows h = tt
faults_passes what (test ∷ tests) [] h = tt
faults_passes what (true ∷ tests) (row ∷ rows) h = cc
faults_passes what (false ∷ tests) (row ∷ rows) h = (refl, faults_passes what tests rows h)

-- the corners that the tests take from rows, and those of cells
abbrev pub CornersOf : ℕ → List Row → List (List ℕ)
CornersOf base rows = map (λ row. row_corners base row.words) rows

abbrev pub CellCorners : List RawCell → List (List ℕ)
CellCorners cells = map (λ cell. cell.corners) cells

-- the tests of the whole mesh find nothing where the corners of its rows are whole
pub whole_spelled : (base : ℕ) (rows : List Row) → FindNone (whole_tests base rows) → FitTogether (CornersOf base rows)
whole_spelled base rows h =
    let cells : List (List ℕ) = CornersOf base rows in
    let twice : List Bool = along repeats_earlier [] cells in
    let third : List Bool = along is_third [] cells in
    let parts = append_none (map (cell_fault CellTwice) (zip twice rows)) (map (cell_fault FaceShared) (zip third rows)) h in
    let count : length cells ≡ length rows = length-map rows (λ (row : Row). row_corners base row.words) in
    let twice_count = along_length repeats_earlier [] cells ∙ count in
    let third_count = along_length is_third [] cells ∙ count in
    (faults_spelled CellTwice twice rows twice_count parts.0, faults_spelled FaceShared third rows third_count parts.1)

pub whole_passes : (base : ℕ) (rows : List Row) → FitTogether (CornersOf base rows) → FindNone (whole_tests base rows)
whole_passes base rows h =
    let twice : List Bool = along repeats_earlier [] (CornersOf base rows) in
    let third : List Bool = along is_third [] (CornersOf base rows) in
    none_append (map (cell_fault CellTwice) (zip twice rows)) (map (cell_fault FaceShared) (zip third rows))
    (faults_passes CellTwice twice rows h.0) (faults_passes FaceShared third rows h.1)

-- ---- the corners of the rows are those of the cells

-- they are the same, and each is a cell of n points
rows_corners : (attributes points base start : ℕ) (rows : List Row) (cells : List RawCell)
    → AreNumbered (IsCellRow (cell_form attributes points base)) start rows cells
    → (CornersOf base rows ≡ CellCorners cells) × AllByRecursion (IsCell points) (CellCorners cells)
rows_corners attributes points base start [] [] h = (refl, tt)
rows_corners attributes points base start [] (cell ∷ cells) h = absurd h
rows_corners attributes points base start (row ∷ rows) [] h = absurd h
rows_corners attributes points base start (row ∷ rows) (cell ∷ cells) h =
    let more = rows_corners attributes points base (start + 1) rows cells h.1 in
    (cc (row_corners_are attributes points base start row.words cell h.0, more.0), (h.0.corners_fit, more.1))

pub cells_corners : (rows : List Row) (points : List Point) (base : ℕ) (cells : List RawCell) → Cells rows points base cells
    → (CornersOf base (drop 1 rows) ≡ CellCorners cells) × AllByRecursion (IsCell (length points)) (CellCorners cells)
cells_corners rows points base cells h =
    let r = rows_corners h.attributes (length points) base h.first h.others cells h.each in
    (ap (λ (l : List Row). CornersOf base (drop 1 l)) h.rows_are ∙ r.0, r.1)

-- ---- both files

-- rows that spell points and cells that make a mesh
abbrev pub SomeMesh : TextRows → TextRows → Type 0
SomeMesh node ele =
    (base : ℕ) × (points : List Point) × (cells : List RawCell)
    × Points node.rows base points × Cells ele.rows points base cells × IsMesh (length points) (map (λ cell. cell.corners) cells)

-- the faults over n points from this base
abbrev faults : TextRows → TextRows → ℕ → ℕ → List (Option MeshFault)
faults node ele points base = node_fault node ∷ ele_fault points base ele ∷ whole_tests base (drop 1 ele.rows)

-- over points that the node file spells, the tests are those over their count and base
pub same_faults : (node ele : TextRows) (base : ℕ) (points : List Point) → Points node.rows base points
    → mesh_fault node ele ≡ first_some (faults node ele (length points) base)
same_faults node ele base points h =
    let count = points_count node.rows base points h in
    let own = points_base node.rows base points h in
    ap (λ (k : ℕ). first_some (faults node ele k (first_number (drop 1 node.rows)))) count
    ∙ ap (λ (b : ℕ). first_some (faults node ele (length points) b)) own

-- over points that the node file spells, no fault makes a mesh
mesh_over : (node ele : TextRows) (base : ℕ) (points : List Point) → Points node.rows base points
    → FindNone (faults node ele (length points) base) → SomeMesh node ele
mesh_over node ele base points h e =
    let cells = ele_spelled points base ele.last_line ele.rows e.1.0 in
    let corners = cells_corners ele.rows points base cells.0 cells.1 in
    let whole = subst (λ (l : List (List ℕ)). FitTogether l) corners.0 (whole_spelled base (drop 1 ele.rows) e.1.1) in
    (base, points, cells.0, h, cells.1, record { each = corners.1; together = whole })

-- the two directions of the law
pub mesh_spelled : (node ele : TextRows) → mesh_fault node ele ≡ None → SomeMesh node ele
mesh_spelled node ele e =
    let points : ℕ = length (drop 1 node.rows) in
    let base : ℕ = first_number (drop 1 node.rows) in
    let all = each_none (faults node ele points base) e in
    let p = node_spelled node.last_line node.rows all.0 in
    mesh_over node ele p.0 p.1 p.2 (each_none (faults node ele (length p.1) p.0) (sym (same_faults node ele p.0 p.1 p.2) ∙ e))

pub mesh_passes : (node ele : TextRows) → SomeMesh node ele → mesh_fault node ele ≡ None
mesh_passes node ele m =
    let base = m.0 in
    let points = m.1 in
    let corners = cells_corners ele.rows points base m.2 m.4 in
    let whole = subst (λ (l : List (List ℕ)). FitTogether l) (sym corners.0) m.5.together in
    let node' = node_passes node.last_line node.rows base points m.3 in
    let ele' = ele_passes points base ele.last_line ele.rows m.2 m.4 in
    let all = first_none (faults node ele (length points) base) (node', (ele', whole_passes base (drop 1 ele.rows) whole)) in
    same_faults node ele base points m.3 ∙ all
