use Rattle.std.proofs.Common.{ap, ◌∙◌}
use Rattle.text_scan.proofs.RowTableLemmas.{rows_count}
use Rattle.text_scan.proofs.row_table.RowTable.len.Goals as goal

pub returns : goal.returns
returns c =
    let a = c.self.inside in
    c.len.ensures ∙ (a.ends.ok.0 ∙ rows_count a.words a.ends.items c.args.self.now.rows (ap (λ t. t.rows) c.self.view_is))
