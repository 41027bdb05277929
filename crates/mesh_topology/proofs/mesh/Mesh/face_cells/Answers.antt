use Rattle.std.proofs.Common.{◌∙◌, arith}
use Rattle.liszt_base.specs.declared.elements.Kind.TheVariants.{Face, Cell}
use Rattle.mesh_topology.proofs.LookupLemmas.{inside, are_sides, one_listed, two_listed}
use Rattle.mesh_topology.proofs.mesh.Mesh.face_cells.Goals as goal

pub of-requires : goal.of-requires
of-requires c = inside c.self.inside.raw c.args.self.now Face Cell c.self.inside.lower.face_cells c.args.f c.self.invariant.lower_tables.face_cells c.self.view_is c.requires

pub unreachable-requires : goal.unreachable-requires
unreachable-requires c =
    let s = are_sides c.self.inside.raw c.args.self.now c.self.inside.lower.face_cells c.args.f c.of.result.now c.self.invariant.small c.self.invariant.lower_tables.face_cells c.self.view_is c.requires c.of.ensures in
    omega (arith, s.some)

pub returns-in-len1 : goal.returns-in-len1
returns-in-len1 c =
    let s = are_sides c.self.inside.raw c.args.self.now c.self.inside.lower.face_cells c.args.f c.of.result.now c.self.invariant.small c.self.invariant.lower_tables.face_cells c.self.view_is c.requires c.of.ensures in
    s.is ∙ one_listed c.of.result.now (omega arith)

pub returns-in-len2-up : goal.returns-in-len2-up
returns-in-len2-up c =
    let s = are_sides c.self.inside.raw c.args.self.now c.self.inside.lower.face_cells c.args.f c.of.result.now c.self.invariant.small c.self.invariant.lower_tables.face_cells c.self.view_is c.requires c.of.ensures in
    s.is ∙ two_listed c.of.result.now (omega (arith, s.few))
