use Rattle.mesh_topology.proofs.RankLemmas.{id_of_corners_is}
use Rattle.mesh_topology.proofs.laws.corners_have_one_id.Goals as goal

pub returns : goal.returns
returns c = id_of_corners_is
