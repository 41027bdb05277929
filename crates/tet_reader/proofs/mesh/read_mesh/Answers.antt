use Rattle.tet_reader.proofs.EleReading.{mesh_read}
use Rattle.tet_reader.proofs.mesh.read_mesh.Goals as goal

pub returns : goal.returns
returns c =
    mesh_read c.args.node.now c.args.ele.now c.in_ok-node_rows.node_rows c.in_ok-ele_rows.ele_rows c.in_ok-points.points c.read_cells.result
    c.in_ok-node_rows.ensures c.in_ok-ele_rows.ensures c.in_ok-points.ensures.0 c.in_ok-points.ensures.1 c.read_cells.ensures
