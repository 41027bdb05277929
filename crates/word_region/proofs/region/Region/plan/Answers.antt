use Rattle.std.proofs.Common.{arith}
use Rattle.word_region.proofs.RegionLemmas.{sums_fit}
use Rattle.word_region.proofs.region.Region.plan.Goals as goal

pub first_words-requires-clause-fit : goal.first_words-requires-clause-fit
first_words-requires-clause-fit c scope below =
    omega (arith, sums_fit c.args.scopes.now c.args.sizes.now c.in_ok-sums.sums.starts c.in_ok-sums.sums.peak c.requires.scopes c.in_ok-sums.ensures scope below, c.from.ensures, c.ranges.limit)
