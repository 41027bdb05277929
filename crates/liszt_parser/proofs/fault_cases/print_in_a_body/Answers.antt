use Rattle.liszt_parser.proofs.FaultCases.{print_fault}
use Rattle.liszt_parser.proofs.fault_cases.print_in_a_body.Goals as goal

pub returns : goal.returns
returns c = record { at_print = print_fault }
