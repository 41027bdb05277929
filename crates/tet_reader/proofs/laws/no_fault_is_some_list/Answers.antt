use Rattle.tet_reader.proofs.Lists.{node_spelled, node_passes, ele_spelled, ele_passes}
use Rattle.tet_reader.proofs.laws.no_fault_is_some_list.Goals as goal

pub returns-clause-points : goal.returns-clause-points
returns-clause-points c = λ text. (node_spelled text.last_line text.rows, λ p. node_passes text.last_line text.rows p.0 p.1 p.2)

pub returns-clause-cells : goal.returns-clause-cells
returns-clause-cells c = λ text points base.
    (ele_spelled points base text.last_line text.rows, λ p. ele_passes points base text.last_line text.rows p.0 p.1)
