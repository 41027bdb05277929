use Rattle.mesh_topology.proofs.CycleLemmas.{cycle_of_face}
use Rattle.mesh_topology.proofs.laws.face_cycles_are_induced.Goals as goal

pub returns : goal.returns
returns c = cycle_of_face
