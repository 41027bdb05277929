use Rattle.kernel_eval.proofs.HeldStateLemmas.{can_from_state, can_over_store}
use Rattle.kernel_eval.proofs.laws.begun_locals_can_iterate.Goals as goal

pub returns-clause-from_state : goal.returns-clause-from_state
returns-clause-from_state c = can_from_state

pub returns-clause-over_any_store : goal.returns-clause-over_any_store
returns-clause-over_any_store c = can_over_store
