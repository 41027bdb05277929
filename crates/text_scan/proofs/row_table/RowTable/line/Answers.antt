use Rattle.std.proofs.Common.{ap, sym, arith}
use Rattle.text_scan.proofs.RowTableLemmas.{rows_count, line_found}
use Rattle.text_scan.proofs.row_table.RowTable.line.Goals as goal

pub index-requires : goal.index-requires
index-requires c =
    let a = c.self.inside in
    omega (arith, rows_count a.words a.ends.items c.args.self.now.rows (ap (λ t. t.rows) c.self.view_is), a.ends.ok.0, c.requires)

pub returns : goal.returns
returns c =
    let a = c.self.inside in
    let rows = ap (λ t. t.rows) c.self.view_is in
    sym (line_found a.words a.ends.items c.args.self.now.rows c.args.place c.index.result.now rows c.requires c.index.ensures)
