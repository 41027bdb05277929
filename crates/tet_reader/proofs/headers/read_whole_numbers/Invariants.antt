use Rattle.text_scan.specs.Rows.{row_at}
use Rattle.tet_reader.proofs.HeaderWords.{AreWhole}
use Rattle.tet_reader.proofs.headers.read_whole_numbers.Given as goal

abbrev pub invariant-loop-place : goal.invariant-loop-place
invariant-loop-place l = AreWhole (row_at l.rows.rows 0).words l.numbers l.place
