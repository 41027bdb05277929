use Rattle.liszt_parser.proofs.FaultCases.{minus_fault, set_fault}
use Rattle.liszt_parser.proofs.fault_cases.no_faults.Goals as goal

pub returns-clause-minus : goal.returns-clause-minus
returns-clause-minus c = minus_fault

pub returns-clause-assignment : goal.returns-clause-assignment
returns-clause-assignment c = set_fault
