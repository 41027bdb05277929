use Rattle.std.proofs.Common.{◌≡◌, ◌<◌, length, get_or, slice_get, Some, ap, subst, ◌∙◌, arith}
use Rattle.std.proofs.lemmas.Option.{slice_get-get_or}
use Rattle.mesh_topology.proofs.NearLemmas.{vertex_count}
use Rattle.mesh_topology.proofs.ListLemmas.{no_point}
use Rattle.mesh_topology.proofs.mesh.Mesh.point.Goals as goal

pub bounds-points-v : goal.bounds-points-v
bounds-points-v c =
    let e : length c.points.result.now ≡ length c.args.self.now.points = ap (λ xs. length xs) c.points.ensures ∙ ap (λ m. length m.points) c.self.view_is in
    omega (arith, vertex_count c.args.self.now, c.requires)

pub returns : goal.returns
returns c =
    let same : c.points.result.now ≡ c.args.self.now.points = c.points.ensures ∙ ap (λ m. m.points) c.self.view_is in
    let e = ap (λ xs. length xs) same in
    let l : c.args.v < length c.points.result.now = omega (arith, vertex_count c.args.self.now, c.requires) in
    subst (λ points. slice_get points c.args.v ≡ Some (get_or c.points.result.now c.args.v no_point)) same (slice_get-get_or c.points.result.now c.args.v no_point l)
