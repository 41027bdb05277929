use Rattle.std.proofs.Common.{◌∙◌, arith}
use Rattle.liszt_base.specs.declared.elements.Kind.TheVariants.{Vertex, Edge, Face, Cell}
use Rattle.mesh_topology.proofs.LowerTableLemmas.{face_vertices}
use Rattle.mesh_topology.proofs.LookupLemmas.{inside, read, read_row}
use Rattle.mesh_topology.proofs.mesh.Mesh.near_face.Goals as goal

pub index-requires : goal.index-requires
index-requires c =
    let l = inside c.self.inside.raw c.args.self.now Face Vertex c.self.inside.lower.sets.faces.items c.args.f (c.self.invariant.lower_tables.sets.faces ∙ face_vertices c.self.inside.raw) c.self.view_is c.requires.below in
    omega (arith, c.self.inside.lower.sets.faces.ok.0)

pub returns-in-Vertex : goal.returns-in-Vertex
returns-in-Vertex c =
    read_row c.self.inside.raw c.args.self.now Face Vertex c.args.out c.self.inside.lower.sets.faces.items c.args.f c.index.result.now (c.self.invariant.lower_tables.sets.faces ∙ face_vertices c.self.inside.raw) c.self.view_is c.in-Vertex.is c.requires.below c.index.ensures

pub index-requires-in-Edge : goal.index-requires-in-Edge
index-requires-in-Edge c =
    let l = inside c.self.inside.raw c.args.self.now Face Edge c.self.inside.lower.face_edges.items c.args.f c.self.invariant.lower_tables.face_edges c.self.view_is c.requires.below in
    omega (arith, c.self.inside.lower.face_edges.ok.0)

pub returns-in-Edge : goal.returns-in-Edge
returns-in-Edge c =
    read_row c.self.inside.raw c.args.self.now Face Edge c.args.out c.self.inside.lower.face_edges.items c.args.f c.index-in-Edge.result.now c.self.invariant.lower_tables.face_edges c.self.view_is c.in-Edge.is c.requires.below c.index-in-Edge.ensures

pub of-requires : goal.of-requires
of-requires c = inside c.self.inside.raw c.args.self.now Face Cell c.self.inside.lower.face_cells c.args.f c.self.invariant.lower_tables.face_cells c.self.view_is c.requires.below

pub returns-in-Cell : goal.returns-in-Cell
returns-in-Cell c =
    read c.self.inside.raw c.args.self.now Face Cell c.args.out c.self.inside.lower.face_cells c.args.f c.of.result.now c.self.invariant.lower_tables.face_cells c.self.view_is c.in-Cell.is c.requires.below c.of.ensures
