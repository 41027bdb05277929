use Rattle.topo_operators.proofs.EdgeAlongLemmas.{face_along, flipped_face}
use Rattle.topo_operators.proofs.laws.edges_go_along_the_cycle.Goals as goal

pub returns-clause-three : goal.returns-clause-three
returns-clause-three c = λ mesh is face l. (face_along mesh is face l).0

pub returns-clause-along : goal.returns-clause-along
returns-clause-along c = λ mesh is face l. (face_along mesh is face l).1

pub returns-clause-reversed : goal.returns-clause-reversed
returns-clause-reversed c = flipped_face
