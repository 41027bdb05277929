use Rattle.batch_core.proofs.TurnOrderLemmas.{stays_apart, keeps_result, keeps_reads, ends_with_result}
use Rattle.batch_core.proofs.laws.order_of_turns_is_ignored.Goals as goal

pub returns-clause-apart : goal.returns-clause-apart
returns-clause-apart c = stays_apart

pub returns-clause-result : goal.returns-clause-result
returns-clause-result c = keeps_result

pub returns-clause-reads : goal.returns-clause-reads
returns-clause-reads c = keeps_reads

pub returns-clause-finished : goal.returns-clause-finished
returns-clause-finished c = ends_with_result
