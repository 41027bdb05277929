use Rattle.liszt_parser.proofs.SomeFault.{some_fault}
use Rattle.liszt_parser.proofs.laws.some_fault.Goals as goal

pub returns : goal.returns
returns c = some_fault
