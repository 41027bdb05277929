use Rattle.std.proofs.Common.{◌+◌, ◌∷◌, [], ◌∙◌, ap, sym}
use Rattle.text_scan.specs.Rows.{row_at}
use Rattle.liszt_base.specs.Corners.{are_different}
use Rattle.liszt_base.specs.declared.answers.MeshWhat.TheVariants.{CornerTwice}
use Rattle.tet_reader.specs.Faults.{cell_words, row_corners}
use Rattle.tet_reader.specs.Tests.{first_some, unless, row_tests}
use Rattle.tet_reader.proofs.CellRows.{holds, cell_count, corners_hold, cell_read}
use Rattle.tet_reader.proofs.WordLists.{first_after, first_before}
use Rattle.tet_reader.proofs.cells.cell_row.Goals as goal

pub cell_of-cell-requires : goal.cell_of-cell-requires
cell_of-cell-requires c =
    let words = (row_at c.args.rows.now.rows (c.args.place + 1)).words in
    let number = c.args.first + c.args.place in
    let h = holds c.args.header.cells c.args.place c.args.header.attributes c.args.points c.args.base number words c.read_row.new.numbers
    c.in-Ok.ensures.0 c.in-Ok.ensures.1 in
    let corners = corners_hold c.args.header.attributes c.args.points c.args.base number words c.read_row.new.numbers c.ranges.points.fits h in
    record {
      words = cell_count c.args.header.attributes c.args.points c.args.base number words c.read_row.new.numbers h;
      a = corners.0;
      b = corners.1;
      c = corners.2;
      d = corners.3;
    }

pub returns-then-are_different : goal.returns-then-are_different
returns-then-are_different c =
    let words = (row_at c.args.rows.now.rows (c.args.place + 1)).words in
    let number = c.args.first + c.args.place in
    let tests = row_tests c.args.header.cells c.args.place (cell_words c.args.header.attributes c.args.points c.args.base number) words in
    let h = holds c.args.header.cells c.args.place c.args.header.attributes c.args.points c.args.base number words c.read_row.new.numbers
    c.in-Ok.ensures.0 c.in-Ok.ensures.1 in
    let corners = corners_hold c.args.header.attributes c.args.points c.args.base number words c.read_row.new.numbers c.ranges.points.fits h in
    let same = ap (λ q. q.corners) c.cell_of-cell.ensures ∙ corners.4 in
    let different = ap are_different (sym same) ∙ (sym c.are_different.ensures ∙ c.if-are_different.true) in
    let is = cell_read c.args.header.attributes c.args.points c.args.base number words c.read_row.new.numbers c.ranges.points.fits h different in
    let pass = first_after tests (unless (are_different (row_corners c.args.base words)) CornerTwice ∷ []) c.in-Ok.ensures.0
    ∙ ap (λ b. first_some (unless b CornerTwice ∷ [])) different in
    (pass, rw c.cell_of-cell.ensures is)

pub returns-else-are_different : goal.returns-else-are_different
returns-else-are_different c =
    let words = (row_at c.args.rows.now.rows (c.args.place + 1)).words in
    let number = c.args.first + c.args.place in
    let tests = row_tests c.args.header.cells c.args.place (cell_words c.args.header.attributes c.args.points c.args.base number) words in
    let h = holds c.args.header.cells c.args.place c.args.header.attributes c.args.points c.args.base number words c.read_row.new.numbers
    c.in-Ok.ensures.0 c.in-Ok.ensures.1 in
    let corners = corners_hold c.args.header.attributes c.args.points c.args.base number words c.read_row.new.numbers c.ranges.points.fits h in
    let same = ap (λ q. q.corners) c.cell_of-cell.ensures ∙ corners.4 in
    let different = ap are_different (sym same) ∙ (sym c.are_different.ensures ∙ c.if-are_different.false) in
    first_after tests (unless (are_different (row_corners c.args.base words)) CornerTwice ∷ []) c.in-Ok.ensures.0
    ∙ ap (λ b. first_some (unless b CornerTwice ∷ [])) different

pub returns-in-Err : goal.returns-in-Err
returns-in-Err c =
    let words = (row_at c.args.rows.now.rows (c.args.place + 1)).words in
    let number = c.args.first + c.args.place in
    first_before (row_tests c.args.header.cells c.args.place (cell_words c.args.header.attributes c.args.points c.args.base number) words)
    (unless (are_different (row_corners c.args.base words)) CornerTwice ∷ []) c.in-Err.what c.in-Err.ensures
