use Rattle.text_scan.specs.Rows.{row_at}
use Rattle.tet_reader.specs.Internal.RowKinds.{expected_words}
use Rattle.tet_reader.proofs.WordLists.{AreRead}
use Rattle.tet_reader.proofs.kinds.RowKind.read_words.Given as goal

abbrev pub invariant-loop-place : goal.invariant-loop-place
invariant-loop-place l = AreRead (expected_words l.self l.number) (row_at l.rows.rows l.row).words l.numbers l.place
