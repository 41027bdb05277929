use Rattle.seq_meaning.proofs.PathLemmas.{main_commutes}
use Rattle.seq_meaning.proofs.laws.the_path_is_never_read.Goals as goal

pub returns : goal.returns
returns c mesh turns site program path = main_commutes path mesh turns site program
