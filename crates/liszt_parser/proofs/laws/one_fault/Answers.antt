use Rattle.liszt_parser.proofs.OneFault.{one, none}
use Rattle.liszt_parser.proofs.laws.one_fault.Goals as goal

pub returns-clause-unique : goal.returns-clause-unique
returns-clause-unique c = one

pub returns-clause-none : goal.returns-clause-none
returns-clause-none c = none
