use Rattle.std.proofs.Common.{◌≡◌, ◌≤◌}
use Rattle.field_words.proofs.tests.has_numbers.Given as goal

abbrev pub invariant-loop-word : goal.invariant-loop-word
invariant-loop-word l = (l.first ≤ l.word) × (l.seat.table ≡ l.fn.seat.table) × (l.seat.own ≡ l.fn.seat.own)
