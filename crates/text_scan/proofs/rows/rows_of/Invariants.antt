use Rattle.std.proofs.Common.{◌≡◌, ◌+◌, ◌≤◌, length, []}
use Rattle.text_scan.specs.Rows.{text_rows}
use Rattle.text_scan.proofs.LineLemmas.{text_of}
use Rattle.text_scan.proofs.rows.rows_of.Given as goal

abbrev pub invariant-loop-rest : goal.invariant-loop-rest
invariant-loop-rest l = record {
  closed : l.table.last ≡ [];
  short : l.last_line + length l.rest ≤ length l.bytes;
  text : text_of l.table.rows l.last_line l.rest ≡ text_rows l.bytes;
}

abbrev pub decreases-loop-rest : goal.decreases-loop-rest
decreases-loop-rest l = length l.rest
