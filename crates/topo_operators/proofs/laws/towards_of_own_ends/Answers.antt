use Rattle.topo_operators.proofs.OrientationLemmas.{edge_towards, face_towards}
use Rattle.topo_operators.proofs.laws.towards_of_own_ends.Goals as goal

pub returns-clause-head : goal.returns-clause-head
returns-clause-head c = λ mesh x is. (edge_towards mesh x is).0

pub returns-clause-tail : goal.returns-clause-tail
returns-clause-tail c = λ mesh x is. (edge_towards mesh x is).1

pub returns-clause-outside : goal.returns-clause-outside
returns-clause-outside c = λ mesh x is. (face_towards mesh x is).0

pub returns-clause-inside : goal.returns-clause-inside
returns-clause-inside c = λ mesh x is. (face_towards mesh x is).1
