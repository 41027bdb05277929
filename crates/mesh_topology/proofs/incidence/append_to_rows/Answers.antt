use Rattle.std.proofs.Common.{◌+◌, ◌∷◌, ◌++◌, [], length, get_or, take, refl, sym, ap, subst, arith}
use Rattle.mesh_topology.specs.Internal.Incidence.{AreChangedAt}
use Rattle.mesh_topology.proofs.TransposeLemmas.{changed_step, unchanged}
use Rattle.mesh_topology.proofs.incidence.append_to_rows.Goals as goal

pub push-requires : goal.push-requires
push-requires g c =
    let list = c.args.list.now in
    let below = c.requires.below c.loop-y.y-index 0 c.loop-y-test.true in
    let same = ap (λ xs. length xs) (unchanged [] (λ row. row ++ c.args.id ∷ []) list c.loop-y.y-index c.args.rows.now c.loop-y.rows c.loop-y-test.true c.requires.ascending below c.loop-y.invariant) in
    let capacity = c.requires.capacity c.loop-y.y-index 0 c.loop-y-test.true in
    (omega arith, (omega (arith, below, c.loop-y.invariant.length_is), omega arith))

pub loop-y-preserved : goal.loop-y-preserved
loop-y-preserved g c =
    let list = c.args.list.now in
    let old = c.args.rows.now in
    let mid = c.loop-y.rows in
    let y = get_or list c.loop-y.y-index 0 in
    let below = c.requires.below c.loop-y.y-index 0 c.loop-y-test.true in
    let more = changed_step [] (λ row. row ++ c.args.id ∷ []) list c.loop-y.y-index old mid (get_or mid y [] ++ c.args.id ∷ []) c.loop-y-test.true c.requires.ascending below c.loop-y.invariant refl in
    subst (λ rows. AreChangedAt [] (λ row. row ++ c.args.id ∷ []) (take (c.loop-y.y-index + 1) list) old rows) (sym c.push.ensures) more
