use Rattle.independence.proofs.SequenceLemmas.{iterations_agree}
use Rattle.independence.proofs.laws.iterations_leave_reads.Goals as goal

pub returns : goal.returns
returns c mesh comprehension turns s ids typed = iterations_agree mesh comprehension turns typed ids s
