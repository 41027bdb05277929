use Rattle.mesh_topology.proofs.SideLemmas.{one_or_two}
use Rattle.mesh_topology.proofs.laws.faces_have_one_or_two_sides.Goals as goal

pub returns : goal.returns
returns c = one_or_two
