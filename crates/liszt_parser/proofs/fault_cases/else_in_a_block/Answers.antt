use Rattle.liszt_parser.proofs.FaultCases.{if_fault}
use Rattle.liszt_parser.proofs.fault_cases.else_in_a_block.Goals as goal

pub returns : goal.returns
returns c = record { at_else = if_fault }
