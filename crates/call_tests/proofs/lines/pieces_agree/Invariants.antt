use Rattle.std.proofs.Common.{◌≡◌, ◌≤◌}
use Rattle.text_scan.specs.Scanners.{fed_length}
use Rattle.call_tests.proofs.lines.pieces_agree.Given as goal

abbrev pub invariant-loop-piece : goal.invariant-loop-piece
invariant-loop-piece l = (fed_length l.lines ≡ l.count) × (l.count ≤ 2000)
