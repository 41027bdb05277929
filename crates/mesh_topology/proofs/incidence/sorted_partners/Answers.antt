use Rattle.std.proofs.Common.{◌<◌, ◌∷◌, ◌++◌, [], ap, sym, subst, ◌∙◌, arith}
use Rattle.std.proofs.lemmas.Option.{get_or_from_slice_get}
use Rattle.mesh_topology.specs.Internal.Incidence.{IsSetOf}
use Rattle.mesh_topology.proofs.PartnerLemmas.{joined_step}
use Rattle.mesh_topology.proofs.incidence.sorted_partners.Goals as goal

pub loop-id-preserved : goal.loop-id-preserved
loop-id-preserved c =
    let lists = c.args.lists.now in
    let o = c.in_ok-rows.ensures in
    let l : c.loop-id.id < c.args.count = omega arith in
    let read = get_or_from_slice_get c.in_ok-rows.rows c.loop-id.id c.of.result.now [] c.of.ensures in
    let set = c.in_ok-extend_from_slice.ensures.items ∙ ap (λ xs. xs ++ c.of.result.now) c.clear.ensures.items in
    let one = subst (λ xs. IsSetOf xs c.make_set.new.ids.items) (set ∙ sym read) c.make_set.ensures in
    let e = c.in_ok-push.ensures.ok ∙ ap (λ list. c.loop-id.sets ++ list ∷ []) c.as_slice.ensures.value in
    joined_step lists c.args.count c.loop-id.id c.in_ok-rows.rows c.loop-id.sets c.make_set.new.ids.items c.push.new.self o l c.loop-id.invariant one e
