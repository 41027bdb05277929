use Rattle.std.proofs.Common.{◌<◌, ◌≤◌, length, arith}
use Rattle.mesh_topology.proofs.SearchLemmas.{ranks_step, ranks_all}
use Rattle.mesh_topology.proofs.corner_sets.ranks.Goals as goal

pub loop-i-preserved : goal.loop-i-preserved
loop-i-preserved g c =
    let s = c.rank.ensures in
    let l : c.loop-i.i < length c.args.sets.now = omega (arith, c.told-sets) in
    ranks_step c.args.table.now c.args.sets.now c.loop-i.i c.loop-i.ids c.rank.result l c.loop-i.invariant s.below s.at_result

pub returns : goal.returns
returns g c =
    let l : length c.args.sets.now ≤ c.loop-i.i = omega (arith, c.told-sets) in
    ranks_all c.args.table.now c.args.sets.now c.loop-i.i c.loop-i.ids l c.loop-i.invariant
