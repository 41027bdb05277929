use Rattle.phase_types.proofs.FaultLemmas.{no_fault, is_typed}
use Rattle.phase_types.proofs.laws.typed_programs_have_no_fault.Goals as goal

pub returns-clause-no_fault : goal.returns-clause-no_fault
returns-clause-no_fault c = no_fault

pub returns-clause-typed : goal.returns-clause-typed
returns-clause-typed c = is_typed
