use Rattle.std.proofs.Common.{◌≡◌, ℕ, ◌<◌, [], get_or, subst, arith}
use Rattle.mesh_topology.specs.Internal.Combinations.{first_corner, AreStarts}
use Rattle.mesh_topology.proofs.StartLemmas.{starts_step, first_corners_below}
use Rattle.mesh_topology.proofs.corner_sets.starts.Goals as goal

pub loop-v-preserved : goal.loop-v-preserved
loop-v-preserved g c =
    let table = c.args.table.now in
    let i = c.loop-v.invariant in
    let s = c.first_at_least-next.ensures in (
      starts_step table c.loop-v.v c.loop-v.starts.items c.loop-v.next c.first_at_least-next.result c.push.new.self.items c.requires i.0 i.2 s.range s.below s.at_result c.in_ok-push.ensures.items,
      s.range.1,
      first_corners_below table c.loop-v.next c.first_at_least-next.result c.loop-v.v i.2 s.below,
    )

pub returns : goal.returns
returns g c =
    let table = c.args.table.now in
    let i = c.loop-v.invariant in
    let s = c.first_at_least.ensures in
    let e : c.loop-v.v ≡ c.args.last = omega arith in
    let so = subst (λ v. AreStarts table v c.loop-v.starts.items) e i.0 in
    let before = subst (λ v. (id : ℕ) → id < c.loop-v.next → first_corner (get_or table id []) < v) e i.2 in
    starts_step table c.args.last c.loop-v.starts.items c.loop-v.next c.first_at_least.result c.push-2.new.self.items c.requires so before s.range s.below s.at_result c.in_ok-push-2.ensures.items
