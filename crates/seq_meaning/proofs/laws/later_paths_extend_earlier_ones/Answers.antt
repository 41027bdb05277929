use Rattle.seq_meaning.proofs.PathExtensionLemmas.{main_extends}
use Rattle.seq_meaning.proofs.laws.later_paths_extend_earlier_ones.Goals as goal

pub returns : goal.returns
returns c mesh turns site program p = (main_extends mesh turns site program).preserved p
