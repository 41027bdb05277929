use Rattle.phase_types.proofs.CheckedLemmas.{is_fault, only_fault, checked_is_typed, typed_is_checked}
use Rattle.phase_types.proofs.laws.checked_programs_are_typed.Goals as goal

pub returns-clause-fault : goal.returns-clause-fault
returns-clause-fault c = is_fault

pub returns-clause-only_fault : goal.returns-clause-only_fault
returns-clause-only_fault c = only_fault

pub returns-clause-typed : goal.returns-clause-typed
returns-clause-typed c = checked_is_typed

pub returns-clause-checked : goal.returns-clause-checked
returns-clause-checked c = typed_is_checked
