use Rattle.std.proofs.Common.{◌+◌, ◌∷◌, ◌++◌, [], length, get_or, take, refl, sym, ap, subst, ◌∙◌, arith}
use Rattle.mesh_topology.specs.Internal.Incidence.{AreChangedAt}
use Rattle.mesh_topology.proofs.TransposeLemmas.{changed_step, unchanged}
use Rattle.mesh_topology.proofs.incidence.append_to_lists.Goals as goal

pub push-requires-clause-capacity : goal.push-requires-clause-capacity
push-requires-clause-capacity c =
    let row = c.args.row.now in
    let old = c.args.lists.now.lists in
    let mid = c.loop-y.lists.lists in
    let y = get_or row c.loop-y.y-index 0 in
    let below = c.requires.below c.loop-y.y-index 0 c.loop-y-test.true in
    let same = ap (λ xs. length xs) (unchanged [] (λ list. list ++ c.args.id ∷ []) row c.loop-y.y-index old mid c.loop-y-test.true c.requires.ascending below c.loop-y.invariant.0) in
    let capacities = ap (λ r. get_or r y 0) c.loop-y.invariant.1 in
    let capacity = c.requires.capacity c.loop-y.y-index 0 c.loop-y-test.true in
    omega arith

pub loop-y-preserved : goal.loop-y-preserved
loop-y-preserved c =
    let row = c.args.row.now in
    let old = c.args.lists.now.lists in
    let mid = c.loop-y.lists.lists in
    let y = get_or row c.loop-y.y-index 0 in
    let below = c.requires.below c.loop-y.y-index 0 c.loop-y-test.true in
    let more = changed_step [] (λ list. list ++ c.args.id ∷ []) row c.loop-y.y-index old mid (get_or mid y [] ++ c.args.id ∷ []) c.loop-y-test.true c.requires.ascending below c.loop-y.invariant.0 refl in
    (subst (λ lists. AreChangedAt [] (λ list. list ++ c.args.id ∷ []) (take (c.loop-y.y-index + 1) row) old lists) (sym c.push.ensures.lists) more, c.push.ensures.capacities ∙ c.loop-y.invariant.1)
