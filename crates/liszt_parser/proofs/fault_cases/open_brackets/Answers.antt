use Rattle.liszt_parser.proofs.FaultCases.{deep_fault, nested_fault, brace_fault}
use Rattle.liszt_parser.proofs.fault_cases.open_brackets.Goals as goal

pub returns-clause-deep : goal.returns-clause-deep
returns-clause-deep c = deep_fault

pub returns-clause-fits : goal.returns-clause-fits
returns-clause-fits c = nested_fault

pub returns-clause-syntax_first : goal.returns-clause-syntax_first
returns-clause-syntax_first c = brace_fault
