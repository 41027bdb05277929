use Rattle.std.proofs.Common.{◌≡◌, ◌<◌, ◌≤◌, All, AllPairs, [], length, subst, sym, arith}
use Rattle.std.proofs.lemmas.Option.{get_or_from_slice_get}
use Rattle.mesh_topology.specs.Internal.Incidence.{AreOthersAppended, AreOthersSoFar}
use Rattle.mesh_topology.proofs.PartnerLemmas.{others_joined, others_none, others_for}
use Rattle.mesh_topology.proofs.incidence.partners.Goals as goal

pub loop-id-init : goal.loop-id-init
loop-id-init g c = others_none c.args.lists.now c.args.count c.in_ok-rows.rows c.in_ok-rows.ensures

pub add_partners-requires : goal.add_partners-requires
add_partners-requires g c =
    let lists = c.args.lists.now in
    let list = c.of.result.now in
    let is = get_or_from_slice_get lists c.loop-id.id list [] c.of.ensures in
    let l : c.loop-id.id < length lists = omega (arith, c.len-id-end.ensures) in
    let below = subst (λ r. All (λ y. y < c.args.count) r) is (c.requires.transposable.below c.loop-id.id [] l) in
    let ascending = subst (λ r. AllPairs (λ x y. x < y) r) is (c.requires.transposable.ascending c.loop-id.id [] l) in
    let two = subst (λ r. length r ≤ 2) is (c.requires.at_most_two c.loop-id.id [] l) in
    let capacity = others_for lists c.args.count g.row.N c.loop-id.id list c.loop-id.rows c.loop-id.invariant c.requires.at_most_two c.requires.few l is below in
    (omega arith, (two, (λ k d m. omega (arith, below k d m, c.loop-id.invariant.length_is), (ascending, capacity))))

pub loop-id-preserved : goal.loop-id-preserved
loop-id-preserved g c =
    let lists = c.args.lists.now in
    let list = sym (get_or_from_slice_get lists c.loop-id.id c.of.result.now [] c.of.ensures) in
    others_joined lists c.args.count c.loop-id.id c.loop-id.rows c.add_partners.new.rows c.loop-id.invariant (subst (λ r. AreOthersAppended r c.loop-id.rows c.add_partners.new.rows) list c.add_partners.ensures)

pub returns : goal.returns
returns g c =
    let e : c.loop-id.id ≡ length c.args.lists.now = omega (arith, c.loop-id.auto.id-end, c.len-id-end.ensures) in
    subst (λ n. AreOthersSoFar c.args.lists.now c.args.count n c.loop-id.rows) e c.loop-id.invariant
