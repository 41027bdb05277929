use Rattle.topo_operators.proofs.OrientationLemmas.{towards_nil}
use Rattle.topo_operators.proofs.laws.operators_keep_nil.Goals as goal

pub returns-clause-operand : goal.returns-clause-operand
returns-clause-operand c = towards_nil
