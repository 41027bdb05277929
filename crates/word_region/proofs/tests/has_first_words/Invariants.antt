use Rattle.std.proofs.Common.{◌≡◌}
use Rattle.word_region.proofs.tests.has_first_words.Given as goal

abbrev pub invariant-loop-index : goal.invariant-loop-index
invariant-loop-index l = l.region ≡ l.fn.region
