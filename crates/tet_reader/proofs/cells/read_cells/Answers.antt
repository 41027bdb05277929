use Rattle.std.proofs.Common.{◌≡◌, ◌<◌, ◌+◌, None, Some, map, drop, length, subst, sym, ap, ◌∙◌, arith}
use Rattle.std.specs.Option.{option_map}
use Rattle.std.proofs.lemmas.List.{length-map}
use Rattle.liszt_base.specs.declared.mesh.RawCell.{RawCell}
use Rattle.tet_reader.specs.Points.{Cells}
use Rattle.tet_reader.specs.Faults.{ele_fault}
use Rattle.tet_reader.specs.Internal.FirstMisfit.{first_misfit}
use Rattle.tet_reader.proofs.WholeFaultLemmas.{misfit_fault, misfit_inside}
use Rattle.tet_reader.proofs.EleReading.{OfCells, corners_fit, cells_count, misfit_is, misfit_line, mesh_fits, made_mesh}
use Rattle.tet_reader.proofs.cells.read_cells.Goals as goal

pub first_misfit-requires : goal.first_misfit-requires
first_misfit-requires c =
    let h = subst (λ l. Cells c.args.rows.now.rows l c.args.points.base c.in_ok-cells.cells) c.as_slice.ensures c.in_ok-cells.ensures.1 in
    subst OfCells (sym c.as_slice-2.ensures) (corners_fit c.args.rows.now.rows c.args.points.list c.args.points.base c.in_ok-cells.cells h)

pub overflow_add-misfit : goal.overflow_add-misfit
overflow_add-misfit c =
    let found : first_misfit (map (λ cell. cell.corners) c.as_slice-2.result.now) ≡ Some c.in-Some.misfit = sym c.in_ok-misfit.ensures ∙ c.in-Some.is in
    let inside = misfit_inside (map (λ cell. cell.corners) c.as_slice-2.result.now) c.in-Some.misfit found in
    omega (arith, inside, length-map c.as_slice-2.result.now (λ (cell : RawCell). cell.corners), c.as_slice-2.type_inv)

pub line-line-requires : goal.line-line-requires
line-line-requires c =
    let h = subst (λ l. Cells c.args.rows.now.rows l c.args.points.base c.in_ok-cells.cells) c.as_slice.ensures c.in_ok-cells.ensures.1 in
    let found : first_misfit (map (λ cell. cell.corners) c.as_slice-2.result.now) ≡ Some c.in-Some.misfit = sym c.in_ok-misfit.ensures ∙ c.in-Some.is in
    let inside = misfit_inside (map (λ cell. cell.corners) c.as_slice-2.result.now) c.in-Some.misfit found in
    let count = cells_count c.args.rows.now.rows c.args.points.list c.args.points.base c.in_ok-cells.cells h in
    omega (arith, inside, length-map c.as_slice-2.result.now (λ (cell : RawCell). cell.corners), count, ap length c.as_slice-2.ensures)

pub returns-in-Some : goal.returns-in-Some
returns-in-Some c =
    let h = subst (λ l. Cells c.args.rows.now.rows l c.args.points.base c.in_ok-cells.cells) c.as_slice.ensures c.in_ok-cells.ensures.1 in
    let none = subst (λ l. ele_fault (length l) c.args.points.base c.args.rows.now ≡ None) c.as_slice.ensures c.in_ok-cells.ensures.0 in
    let found : first_misfit (map (λ cell. cell.corners) c.as_slice-2.result.now) ≡ Some c.in-Some.misfit = sym c.in_ok-misfit.ensures ∙ c.in-Some.is in
    let inside = misfit_inside (map (λ cell. cell.corners) c.as_slice-2.result.now) c.in-Some.misfit found in
    let found' : first_misfit (map (λ cell. cell.corners) c.in_ok-cells.cells) ≡ Some c.in-Some.misfit =
    ap (λ l. first_misfit (map (λ (cell : RawCell). cell.corners) l)) (sym c.as_slice-2.ensures) ∙ found in
    let count = cells_count c.args.rows.now.rows c.args.points.list c.args.points.base c.in_ok-cells.cells h in
    let within : c.in-Some.misfit.place + 1 < length c.args.rows.now.rows =
    omega (arith, inside, length-map c.as_slice-2.result.now (λ (cell : RawCell). cell.corners), count, ap length c.as_slice-2.ensures) in
    misfit_is c.args.points.list c.args.points.base c.args.rows.now c.in_ok-cells.cells none h
    ∙ (ap (option_map (misfit_fault (drop 1 c.args.rows.now.rows))) found'
    ∙ ap Some (misfit_line c.args.rows.now.rows c.in-Some.misfit c.line-line.result c.fault_with_count.result (omega (arith, within)) c.line-line.ensures within
    c.fault_with_count.ensures))

pub returns-in-None : goal.returns-in-None
returns-in-None c =
    let h = subst (λ l. Cells c.args.rows.now.rows l c.args.points.base c.in_ok-cells.cells) c.as_slice.ensures c.in_ok-cells.ensures.1 in
    let none = subst (λ l. ele_fault (length l) c.args.points.base c.args.rows.now ≡ None) c.as_slice.ensures c.in_ok-cells.ensures.0 in
    let no_misfit = sym c.in-None.is ∙ (c.in_ok-misfit.ensures ∙ ap (λ l. first_misfit (map (λ (cell : RawCell). cell.corners) l)) c.as_slice-2.ensures) in
    let fits = mesh_fits c.args.points.list c.args.points.base c.args.rows.now c.in_ok-cells.cells none h no_misfit in
    let made = c.new.ensures in
    (fits.0, made_mesh c.args.points c.args.rows.now c.in_ok-cells.cells c.new.result made h fits.1)
