use Rattle.std.proofs.Common.{◌+◌, ◌<◌, ◌^◌, get_or, refl, arith, rules}
use Rattle.mesh_topology.proofs.TransposeLemmas.{changed_step, unchanged}
use Rattle.mesh_topology.proofs.incidence.count_ids.Goals as goal

pub overflow_add-degrees : goal.overflow_add-degrees
overflow_add-degrees c =
    let row = c.args.row.now in
    let y = get_or row c.loop-y.y-index 0 in
    let below = c.requires.below c.loop-y.y-index 0 c.loop-y-test.true in
    let same = unchanged 0 (λ n. n + 1) row c.loop-y.y-index c.args.degrees.now c.loop-y.degrees c.loop-y-test.true c.requires.ascending below c.loop-y.invariant in
    let few = c.requires.few y 0 below in
    let l : get_or c.loop-y.degrees y 0 + 1 < 2 ^ 32 = omega arith in
    search rules

pub loop-y-preserved : goal.loop-y-preserved
loop-y-preserved c =
    let row = c.args.row.now in
    let below = c.requires.below c.loop-y.y-index 0 c.loop-y-test.true in
    changed_step 0 (λ n. n + 1) row c.loop-y.y-index c.args.degrees.now c.loop-y.degrees (get_or c.loop-y.degrees (get_or row c.loop-y.y-index 0) 0 + 1) c.loop-y-test.true c.requires.ascending below c.loop-y.invariant refl
