use Rattle.std.proofs.Common.{◌≡◌, ◌<◌, length, true, rules, sym, ◌∙◌}
use Rattle.text_scan.specs.Rows.{row_at}
use Rattle.tet_reader.proofs.HeaderTests.{node_read}
use Rattle.tet_reader.proofs.headers.node_header.Goals as goal

pub returns-in-None : goal.returns-in-None
returns-in-None c =
    let words = (row_at c.args.rows.now.rows 0).words in
    let some : 0 < length c.args.rows.now.rows = search rules in
    let spelled : c.read_header.result ≡ true = search rules in
    let h = node_read words c.read_header.new.numbers (sym c.read_header.ensures.spelled ∙ spelled) (c.read_header.ensures.numbers spelled)
    (sym c.in-None.ensures) in
    (some, rw (c.count_at.ensures, c.count_at-in-None.ensures, c.count_at-in-None-2.ensures) h)
