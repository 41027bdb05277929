-- The first fault of the whole mesh is told at the line of the first cell that no mesh may have.
use Rattle.std.proofs.Common.{◌<◌}
use Rattle.std.proofs.Common.{◌≡◌, ℕ, suc, ◌+◌, Bool, true, false, Option, Some, None, List, [], ◌∷◌, ◌++◌, map, length, get_or}
use Rattle.std.proofs.Common.{refl, sym, ap, ◌∙◌, arith}
use Rattle.std.specs.Prelude.{pos}
use Rattle.std.specs.List.{zip, slice_index}
use Rattle.std.specs.Option.{option_map}
use Rattle.std.proofs.lemmas.List.{length-map}
use Rattle.liszt_base.specs.Corners.{along, repeats_earlier, is_third}
use Rattle.liszt_base.specs.declared.answers.MeshFault.{MeshFault}
use Rattle.liszt_base.specs.declared.answers.MeshFile.TheVariants.{Ele}
use Rattle.liszt_base.specs.declared.answers.MeshWhat.{MeshWhat}
use Rattle.liszt_base.specs.declared.answers.MeshWhat.TheVariants.{CellTwice, FaceShared}
use Rattle.text_scan.specs.Rows.{Row}
use Rattle.tet_reader.specs.Faults.{fault_at, row_corners, cell_fault, whole_tests}
use Rattle.tet_reader.specs.Internal.FirstMisfit.{first_true, misfit, first_misfit}
use Rattle.tet_reader.specs.Tests.{first_some}
use Rattle.tet_reader.specs.declared.misfit.Misfit.{Misfit}
use Rattle.tet_reader.proofs.WholeMeshLemmas.{along_length}

-- the fault of a cell, at the line of its row
abbrev pub misfit_fault : List Row → Misfit → MeshFault
misfit_fault rows m = fault_at Ele (pos 0) (slice_index (map (λ row. row.line) rows) m.place) m.what

-- the first cell whose test is true, where its place gives its line
cell_at : (what : MeshWhat) (tests : List Bool) (rows : List Row) (start : ℕ) (line : ℕ → ℕ) → length tests ≡ length rows
    → ((k : ℕ) → line (start + k) ≡ get_or (map (λ row. row.line) rows) k 0)
    → first_some (map (cell_fault what) (zip tests rows)) ≡ option_map (λ place. fault_at Ele (pos 0) (line place) what) (first_true start tests)
cell_at what [] rows start line l h = refl
cell_at what (test ∷ tests) [] start line l h = absurd (omega arith)
cell_at what (true ∷ tests) (row ∷ rows) start line l h =
    let here : start ≡ start + 0 = omega arith in
    ap (λ n. Some (fault_at Ele (pos 0) n what)) (sym (h 0) ∙ ap line (sym here))
cell_at what (false ∷ tests) (row ∷ rows) start line l h =
    let next : (k : ℕ) → (start + 1) + k ≡ start + suc k = λ k. omega arith in
    cell_at what tests rows (start + 1) line (omega arith) (λ k. ap line (next k) ∙ h (suc k))

-- the first of two lists of tests, one after the other
first_one : {A : Type 0} (o : Option A) → o ≡ first_some (o ∷ [])
first_one None = refl
first_one (Some x) = refl

first_append : {A : Type 0} (xs ys : List (Option A)) → first_some (xs ++ ys) ≡ first_some (first_some xs ∷ first_some ys ∷ [])
first_append [] ys = first_one (first_some ys)
first_append (None ∷ xs) ys = first_append xs ys
first_append (Some x ∷ xs) ys = refl

-- what is made of the first of two places
map_first : {A B : Type 0} (f : A → B) (g h : ℕ → A) (x y : Option ℕ)
    → first_some (option_map (λ n. f (g n)) x ∷ option_map (λ n. f (h n)) y ∷ []) ≡ option_map f (first_some (option_map g x ∷ option_map h y ∷ []))
map_first f g h None None = refl
map_first f g h None (Some y) = refl
map_first f g h (Some x) y = refl

-- so the first of the tests of the whole mesh is the fault of its first misfit
pub first_whole_fault : (base : ℕ) (rows : List Row)
    → first_some (whole_tests base rows) ≡ option_map (misfit_fault rows) (first_misfit (map (λ row. row_corners base row.words) rows))
first_whole_fault base rows =
    let cells : List (List ℕ) = map (λ (row : Row). row_corners base row.words) rows in
    let twice : List Bool = along repeats_earlier [] cells in
    let third : List Bool = along is_third [] cells in
    let count : length cells ≡ length rows = length-map rows (λ (row : Row). row_corners base row.words) in
    let line = λ (place : ℕ). slice_index (map (λ (row : Row). row.line) rows) place in
    let at_line : (k : ℕ) → line (0 + k) ≡ get_or (map (λ row. row.line) rows) k 0 = λ k. ap line (omega arith) in
    let one = cell_at CellTwice twice rows 0 line (along_length repeats_earlier [] cells ∙ count) at_line in
    let two = cell_at FaceShared third rows 0 line (along_length is_third [] cells ∙ count) at_line in
    first_append (map (cell_fault CellTwice) (zip twice rows)) (map (cell_fault FaceShared) (zip third rows))
    ∙ ap (λ o. first_some (o ∷ first_some (map (cell_fault FaceShared) (zip third rows)) ∷ [])) one
    ∙ ap (λ o. first_some (option_map (λ place. fault_at Ele (pos 0) (line place) CellTwice) (first_true 0 twice) ∷ o ∷ [])) two
    ∙ map_first (misfit_fault rows) (misfit CellTwice) (misfit FaceShared) (first_true 0 twice) (first_true 0 third)

-- a misfit is one of the cells
place_of : Option Misfit → ℕ
place_of None = 0
place_of (Some m) = m.place

true_inside : (start place : ℕ) (tests : List Bool) → first_true start tests ≡ Some place → place < start + length tests
true_inside start place [] e = cc
true_inside start place (true ∷ tests) e = let same : start ≡ place = cc in omega arith
true_inside start place (false ∷ tests) e = let more = true_inside (start + 1) place tests e in omega (arith, more)

pub misfit_inside : (cells : List (List ℕ)) (m : Misfit) → first_misfit cells ≡ Some m → m.place < length cells
unfolding place_of
misfit_inside cells m e =
    let twice : List Bool = along repeats_earlier [] cells in
    let third : List Bool = along is_third [] cells in
    go (first_true 0 twice) (first_true 0 third) (λ p h. omega (arith, true_inside 0 p twice h, along_length repeats_earlier [] cells))
    (λ p h. omega (arith, true_inside 0 p third h, along_length is_third [] cells)) e
  where
    go : (x y : Option ℕ) → ((p : ℕ) → x ≡ Some p → p < length cells) → ((p : ℕ) → y ≡ Some p → p < length cells)
        → first_some (option_map (misfit CellTwice) x ∷ option_map (misfit FaceShared) y ∷ []) ≡ Some m → m.place < length cells
    go (Some p) y f g e = let same : p ≡ m.place = ap (λ (o : Option Misfit). place_of o) e in f m.place (ap Some same)
    go None (Some p) f g e = let same : p ≡ m.place = ap (λ (o : Option Misfit). place_of o) e in g m.place (ap Some same)
    go None None f g e = cc
