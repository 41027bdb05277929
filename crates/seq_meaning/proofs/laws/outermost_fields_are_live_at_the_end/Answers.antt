use Rattle.seq_meaning.proofs.OutermostFieldLemmas.{outermost_is_live}
use Rattle.seq_meaning.proofs.laws.outermost_fields_are_live_at_the_end.Goals as goal

pub returns : goal.returns
returns c mesh program turns index info = outermost_is_live mesh turns index info program
