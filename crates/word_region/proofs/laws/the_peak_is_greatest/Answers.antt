use Rattle.word_region.proofs.WordLemmas.{peak_least, planned_fits, upto_le_peak}
use Rattle.word_region.proofs.laws.the_peak_is_greatest.Goals as goal

pub returns-clause-bound : goal.returns-clause-bound
returns-clause-bound c = upto_le_peak

pub returns-clause-least : goal.returns-clause-least
returns-clause-least c = peak_least

pub returns-clause-limit : goal.returns-clause-limit
returns-clause-limit c = planned_fits
