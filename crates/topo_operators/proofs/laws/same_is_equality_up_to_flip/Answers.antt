use Rattle.topo_operators.proofs.OrientationLemmas.{same_flip_first, same_flip_second, same_is, same_nil}
use Rattle.topo_operators.proofs.laws.same_is_equality_up_to_flip.Goals as goal

pub returns-clause-first : goal.returns-clause-first
returns-clause-first c = same_flip_first

pub returns-clause-second : goal.returns-clause-second
returns-clause-second c = same_flip_second

pub returns-clause-same : goal.returns-clause-same
returns-clause-same c = same_is

pub returns-clause-nil : goal.returns-clause-nil
returns-clause-nil c = same_nil
