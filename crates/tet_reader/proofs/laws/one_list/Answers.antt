use Rattle.tet_reader.proofs.Lists.{one_point_list, one_cell_list}
use Rattle.tet_reader.proofs.laws.one_list.Goals as goal

pub returns-clause-points : goal.returns-clause-points
returns-clause-points c = one_point_list

pub returns-clause-cells : goal.returns-clause-cells
returns-clause-cells c = one_cell_list
