use Rattle.std.proofs.Common.{◌-◌, ◌≤◌}
use Rattle.field_words.specs.Internal.Fills.{IsFilled}
use Rattle.field_words.proofs.tests.store_numbers.Given as goal

abbrev pub invariant-loop-word : goal.invariant-loop-word
invariant-loop-word l = (l.first ≤ l.word) × IsFilled l.first (l.word - l.first) l.fn.seat l.seat
