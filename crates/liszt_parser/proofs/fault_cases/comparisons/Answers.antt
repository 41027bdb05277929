use Rattle.liszt_parser.proofs.FaultCases.{below_fault}
use Rattle.liszt_parser.proofs.fault_cases.comparisons.Goals as goal

pub returns : goal.returns
returns c = record { at_below = below_fault }
