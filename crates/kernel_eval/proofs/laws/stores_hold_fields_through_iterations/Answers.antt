use Rattle.kernel_eval.proofs.HeldFieldLemmas.{fields_admit, fields_held_after}
use Rattle.kernel_eval.proofs.laws.stores_hold_fields_through_iterations.Goals as goal

pub returns-clause-admits : goal.returns-clause-admits
returns-clause-admits c = fields_admit

pub returns-clause-after : goal.returns-clause-after
returns-clause-after c = fields_held_after
