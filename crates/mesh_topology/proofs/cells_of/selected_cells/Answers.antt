use Rattle.std.proofs.Common.{◌∷◌, ◌++◌, [], ap, ◌∙◌}
use Rattle.mesh_topology.proofs.ElementCellLemmas.{with_step}
use Rattle.mesh_topology.proofs.cells_of.selected_cells.Goals as goal

pub loop-pair-preserved : goal.loop-pair-preserved
loop-pair-preserved c =
    let e = c.in_ok-push.ensures.ok ∙ ap (λ list. c.loop-pair.selections ++ list ∷ []) c.as_slice.ensures.value in
    with_step c.args.cells.now c.args.pairs.now c.args.lists.now c.loop-pair.selections c.push.new.self c.loop-pair.pair-index c.of.result.now c.set_cells_with.new.selected.items c.loop-pair-test.true c.of.ensures
    c.in_ok-set_cells_with.ensures c.loop-pair.invariant e
