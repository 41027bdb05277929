use Rattle.liszt_parser.proofs.FaultCases.{prints_fault, primary_fault}
use Rattle.liszt_parser.proofs.fault_cases.statements_end.Goals as goal

pub returns-clause-at_print : goal.returns-clause-at_print
returns-clause-at_print c = prints_fault

pub returns-clause-at_end : goal.returns-clause-at_end
returns-clause-at_end c = primary_fault
