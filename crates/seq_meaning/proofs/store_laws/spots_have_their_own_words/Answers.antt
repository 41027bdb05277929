use Rattle.seq_meaning.proofs.FieldStoreLemmas.{different_words}
use Rattle.seq_meaning.proofs.store_laws.spots_have_their_own_words.Goals as goal

pub returns : goal.returns
returns c ranges words a b i j laid = different_words ranges words laid a b i j
