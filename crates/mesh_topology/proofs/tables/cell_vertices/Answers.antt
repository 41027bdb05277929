use Rattle.mesh_topology.proofs.ListLemmas.{row_step}
use Rattle.mesh_topology.proofs.tables.cell_vertices.Goals as goal

pub loop-cell-preserved : goal.loop-cell-preserved
loop-cell-preserved c =
    let s = c.sorted_corners.ensures in
    rw c.in_ok-push.ensures.items (row_step c.args.cells.now c.loop-cell.rows.items c.loop-cell.cell-index c.sorted_corners.result c.loop-cell-test.true c.loop-cell.invariant s.ascending s.permutes)
