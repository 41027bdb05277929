use Rattle.text_scan.proofs.RowLemmas.{comments_add_no_rows}
use Rattle.text_scan.proofs.laws.comments_add_no_rows.Goals as goal

pub returns : goal.returns
returns c = comments_add_no_rows
