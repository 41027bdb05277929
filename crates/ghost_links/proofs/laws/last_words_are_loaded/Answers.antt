use Rattle.ghost_links.proofs.LastWordLemmas.{last_words}
use Rattle.ghost_links.proofs.laws.last_words_are_loaded.Goals as goal

pub returns : goal.returns
returns c = last_words
