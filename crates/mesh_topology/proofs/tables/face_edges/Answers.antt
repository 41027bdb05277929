use Rattle.std.proofs.Common.{ℕ, List, [], Contains, subst, arith}
use Rattle.mesh_topology.specs.Internal.Combinations.{combinations, AreRanks}
use Rattle.mesh_topology.proofs.ListLemmas.{zip_step}
use Rattle.mesh_topology.proofs.tables.face_edges.Goals as goal

pub ranks-requires : goal.ranks-requires
ranks-requires c =
    let s = c.requires in
    let inside = λ (set : List ℕ) (h : Contains c.pairs_of_three.result set). s.inside c.loop-corners.corners-index [] c.loop-corners-test.true set (subst (λ sets. Contains sets set) c.pairs_of_three.ensures h) in
    (omega arith, (omega arith, (omega arith, (s.table, inside))))

pub loop-corners-preserved : goal.loop-corners-preserved
loop-corners-preserved c =
    let table = c.args.edges.now in
    let at = c.loop-corners.corners-index in
    let one = subst (λ sets. AreRanks table sets c.ranks.result) c.pairs_of_three.ensures c.ranks.ensures in
    rw c.in_ok-push.ensures.items
    (zip_step (λ corners ids. AreRanks table (combinations 2 corners) ids) c.args.faces.now c.loop-corners.rows.items at [] c.ranks.result c.loop-corners-test.true c.loop-corners.invariant one)
