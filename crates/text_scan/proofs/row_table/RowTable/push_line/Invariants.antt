use Rattle.std.proofs.Common.{◌≡◌, ◌++◌, length}
use Rattle.text_scan.specs.Internal.OpenRows.{words_in}
use Rattle.text_scan.proofs.row_table.RowTable.push_line.Given as goal

abbrev pub invariant-loop-word : goal.invariant-loop-word
invariant-loop-word l = (l.self.rows ≡ l.initial.self.rows) × (l.self.last ++ words_in l.text ≡ l.initial.self.last ++ words_in l.initial.text)

abbrev pub decreases-loop-word : goal.decreases-loop-word
decreases-loop-word l = length l.text
