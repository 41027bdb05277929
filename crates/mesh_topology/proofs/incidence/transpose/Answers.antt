use Rattle.std.proofs.Common.{◌<◌, ◌^◌, [], ap, replicate, All, ◌++◌, ◌∷◌, length, subst, sym, ◌∙◌, arith}
use Rattle.std.proofs.lemmas.List.{get_or_read}
use Rattle.mesh_topology.specs.Internal.Incidence.{AreChangedAt}
use Rattle.mesh_topology.proofs.TransposeLemmas.{degrees_length, capacities_for, transposed_step, transposed_none, transposed_all}
use Rattle.mesh_topology.proofs.incidence.transpose.Goals as goal

pub new-requires : goal.new-requires
new-requires g c =
    let rows = c.args.rows.now in
    let e = ap (λ xs. length xs) (c.as_slice.ensures.value ∙ c.in_ok-degrees.ensures) ∙ degrees_length rows c.args.count in
    subst (λ n. n < 2 ^ 32) (sym e) c.ranges.count.fits

pub loop-id-init : goal.loop-id-init
loop-id-init g c =
    let rows = c.args.rows.now in
    let made = c.in_ok-lists.ensures in
    let e = ap (λ xs. length xs) (c.as_slice.ensures.value ∙ c.in_ok-degrees.ensures) ∙ degrees_length rows c.args.count in
    (transposed_none rows c.args.count c.in_ok-lists.lists.lists (made.lists ∙ ap (λ n. replicate n []) e), made.capacities_are ∙ c.as_slice.ensures.value)

pub append_to_lists-requires-clause-capacity : goal.append_to_lists-requires-clause-capacity
append_to_lists-requires-clause-capacity g c =
    let rows = c.args.rows.now in
    let row = get_or_read rows c.loop-id.id c.index-rows-id.result c.loop-id-test.true c.index-rows-id.is [] in
    capacities_for rows c.args.count c.loop-id.id c.index-rows-id.result c.loop-id.lists.lists c.loop-id.lists.capacities c.loop-id.invariant.0
    (c.loop-id.invariant.1 ∙ c.in_ok-degrees.ensures) c.loop-id-test.true (sym row)
    (subst (λ r. All (λ y. y < c.args.count) r) (sym row) (c.requires.below c.loop-id.id [] c.loop-id-test.true))

pub loop-id-preserved : goal.loop-id-preserved
loop-id-preserved g c =
    let rows = c.args.rows.now in
    let old = c.loop-id.lists.lists in
    let new = c.append_to_lists.new.lists.lists in
    let row = get_or_read rows c.loop-id.id c.index-rows-id.result c.loop-id-test.true c.index-rows-id.is [] in
    let added = subst (λ r. AreChangedAt [] (λ list. list ++ c.loop-id.id ∷ []) r old new) row c.append_to_lists.ensures.lists in
    (transposed_step rows c.args.count c.loop-id.id old new c.loop-id.invariant.0 added, c.append_to_lists.ensures.capacities ∙ c.loop-id.invariant.1)

pub returns : goal.returns
returns g c =
    let rows = c.args.rows.now in
    transposed_all rows c.args.count c.loop-id.id c.loop-id.lists.lists (omega (arith, c.loop-id.auto.id-end)) c.loop-id.invariant.0
