use Rattle.std.proofs.Common.{◌≡◌, length, ap, ◌∙◌, arith}
use Rattle.liszt_base.specs.declared.elements.Kind.TheVariants.{Face}
use Rattle.mesh_topology.specs.Elements.{count}
use Rattle.mesh_topology.proofs.mesh.Mesh.face_corners.Goals as goal

pub index-requires : goal.index-requires
index-requires c =
    let e : length c.self.inside.lower.sets.faces.items ≡ count c.args.self.now Face = ap (λ xs. length xs) c.self.invariant.lower_tables.sets.faces ∙ ap (λ m. count m Face) c.self.view_is in
    omega (arith, c.self.inside.lower.sets.faces.ok.0, c.requires)
