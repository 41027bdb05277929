use Rattle.std.proofs.Common.{◌≡◌, ◌<◌, All, AllPairs, [], ◌∷◌, ◌++◌, length, subst, sym, arith}
use Rattle.std.proofs.lemmas.Option.{get_or_from_slice_get}
use Rattle.mesh_topology.specs.Internal.Incidence.{AreChangedAt}
use Rattle.mesh_topology.proofs.TransposeLemmas.{rows_for, transposed_step, transposed_none, transposed_all}
use Rattle.mesh_topology.proofs.incidence.transpose_lists.Goals as goal

pub loop-id-init : goal.loop-id-init
loop-id-init g c = transposed_none c.args.lists.now c.args.count c.in_ok-rows.rows c.in_ok-rows.ensures

pub append_to_rows-requires : goal.append_to_rows-requires
append_to_rows-requires g c =
    let lists = c.args.lists.now in
    let list = c.of.result.now in
    let is = get_or_from_slice_get lists c.loop-id.id list [] c.of.ensures in
    let l : c.loop-id.id < length lists = omega (arith, c.len-id-end.ensures) in
    let below = subst (λ r. All (λ y. y < c.args.count) r) is (c.requires.transposable.below c.loop-id.id [] l) in
    let ascending = subst (λ r. AllPairs (λ x y. x < y) r) is (c.requires.transposable.ascending c.loop-id.id [] l) in
    let capacity = rows_for lists c.args.count g.row.N c.loop-id.id list c.loop-id.rows c.loop-id.invariant c.requires.few l is below in
    (omega arith, (λ k d m. omega (arith, below k d m, c.loop-id.invariant.length_is), (ascending, capacity)))

pub loop-id-preserved : goal.loop-id-preserved
loop-id-preserved g c =
    let lists = c.args.lists.now in
    let list = sym (get_or_from_slice_get lists c.loop-id.id c.of.result.now [] c.of.ensures) in
    let old = c.loop-id.rows in
    let new = c.append_to_rows.new.rows in
    let added = subst (λ r. AreChangedAt [] (λ row. row ++ c.loop-id.id ∷ []) r old new) list c.append_to_rows.ensures in
    transposed_step lists c.args.count c.loop-id.id old new c.loop-id.invariant added

pub returns : goal.returns
returns g c =
    let lists = c.args.lists.now in
    let e : c.loop-id.id ≡ length lists = omega (arith, c.loop-id.auto.id-end, c.len-id-end.ensures) in
    transposed_all lists c.args.count c.loop-id.id c.loop-id.rows e c.loop-id.invariant
