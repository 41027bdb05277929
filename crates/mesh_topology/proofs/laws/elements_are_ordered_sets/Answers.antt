use Rattle.mesh_topology.proofs.RankLemmas.{ordered, members}
use Rattle.mesh_topology.proofs.laws.elements_are_ordered_sets.Goals as goal

pub returns-clause-ordered : goal.returns-clause-ordered
returns-clause-ordered c = ordered

pub returns-clause-members : goal.returns-clause-members
returns-clause-members c = members
