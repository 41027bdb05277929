use Rattle.tet_reader.proofs.WholeMeshLemmas.{mesh_spelled, mesh_passes}
use Rattle.tet_reader.proofs.laws.no_fault_is_some_mesh.Goals as goal

pub returns : goal.returns
returns c = λ node ele. (mesh_spelled node ele, mesh_passes node ele)
