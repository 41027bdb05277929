use Rattle.topo_operators.proofs.TowardsLemmas.{towards_some}
use Rattle.topo_operators.proofs.laws.towards_points_to_its_operand.Goals as goal

pub returns-clause-some : goal.returns-clause-some
returns-clause-some c = towards_some
