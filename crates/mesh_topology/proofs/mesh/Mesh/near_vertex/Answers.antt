use Rattle.liszt_base.specs.declared.elements.Kind.TheVariants.{Vertex, Edge, Face, Cell}
use Rattle.mesh_topology.proofs.LookupLemmas.{inside, read}
use Rattle.mesh_topology.proofs.mesh.Mesh.near_vertex.Goals as goal

pub of-requires : goal.of-requires
of-requires c = inside c.self.inside.raw c.args.self.now Vertex Vertex c.self.inside.upper.vertex_vertices c.args.v c.self.invariant.upper_tables.vertex_vertices c.self.view_is c.requires

pub returns-in-Vertex : goal.returns-in-Vertex
returns-in-Vertex c =
    read c.self.inside.raw c.args.self.now Vertex Vertex c.args.out c.self.inside.upper.vertex_vertices c.args.v c.of.result.now c.self.invariant.upper_tables.vertex_vertices c.self.view_is c.in-Vertex.is c.requires c.of.ensures

pub of-requires-in-Edge : goal.of-requires-in-Edge
of-requires-in-Edge c = inside c.self.inside.raw c.args.self.now Vertex Edge c.self.inside.upper.vertex_edges.lists c.args.v c.self.invariant.upper_tables.vertex_edges c.self.view_is c.requires

pub returns-in-Edge : goal.returns-in-Edge
returns-in-Edge c =
    read c.self.inside.raw c.args.self.now Vertex Edge c.args.out c.self.inside.upper.vertex_edges.lists c.args.v c.of-in-Edge.result.now c.self.invariant.upper_tables.vertex_edges c.self.view_is c.in-Edge.is c.requires c.of-in-Edge.ensures

pub of-requires-in-Face : goal.of-requires-in-Face
of-requires-in-Face c = inside c.self.inside.raw c.args.self.now Vertex Face c.self.inside.upper.vertex_faces.lists c.args.v c.self.invariant.upper_tables.vertex_faces c.self.view_is c.requires

pub returns-in-Face : goal.returns-in-Face
returns-in-Face c =
    read c.self.inside.raw c.args.self.now Vertex Face c.args.out c.self.inside.upper.vertex_faces.lists c.args.v c.of-in-Face.result.now c.self.invariant.upper_tables.vertex_faces c.self.view_is c.in-Face.is c.requires c.of-in-Face.ensures

pub of-requires-in-Cell : goal.of-requires-in-Cell
of-requires-in-Cell c = inside c.self.inside.raw c.args.self.now Vertex Cell c.self.inside.lower.sets.vertex_cells c.args.v c.self.invariant.lower_tables.sets.vertex_cells c.self.view_is c.requires

pub returns-in-Cell : goal.returns-in-Cell
returns-in-Cell c =
    read c.self.inside.raw c.args.self.now Vertex Cell c.args.out c.self.inside.lower.sets.vertex_cells c.args.v c.of-in-Cell.result.now c.self.invariant.lower_tables.sets.vertex_cells c.self.view_is c.in-Cell.is c.requires c.of-in-Cell.ensures
