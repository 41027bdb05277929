use Rattle.liszt_parser.specs.Grammar.{no_items}
use Rattle.liszt_parser.proofs.FaultCases.{no_text}
use Rattle.liszt_parser.proofs.fault_cases.empty_text.Goals as goal

pub returns-clause-no_fault : goal.returns-clause-no_fault
returns-clause-no_fault c = no_text

pub returns-clause-tree : goal.returns-clause-tree
returns-clause-tree c = no_items
