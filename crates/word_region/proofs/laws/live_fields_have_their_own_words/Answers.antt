use Rattle.word_region.proofs.WordLemmas.{live_apart, within_peak}
use Rattle.word_region.proofs.laws.live_fields_have_their_own_words.Goals as goal

pub returns-clause-apart : goal.returns-clause-apart
returns-clause-apart c = live_apart

pub returns-clause-within : goal.returns-clause-within
returns-clause-within c = within_peak
