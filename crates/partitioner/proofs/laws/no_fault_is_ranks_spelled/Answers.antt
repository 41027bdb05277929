use Rattle.partitioner.proofs.SpelledRankLemmas.{no_fault_is_ranks}
use Rattle.partitioner.proofs.laws.no_fault_is_ranks_spelled.Goals as goal

pub returns : goal.returns
returns c = no_fault_is_ranks
