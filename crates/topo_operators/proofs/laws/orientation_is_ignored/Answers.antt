use Rattle.topo_operators.proofs.OrientationLemmas.{towards_flip_second}
use Rattle.topo_operators.proofs.laws.orientation_is_ignored.Goals as goal

pub returns-clause-operand : goal.returns-clause-operand
returns-clause-operand c = towards_flip_second
