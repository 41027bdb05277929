use Rattle.std.proofs.Common.{◌∙◌}
use Rattle.liszt_base.specs.declared.elements.Kind.TheVariants.{Vertex, Edge, Face, Cell}
use Rattle.mesh_topology.proofs.LowerTableLemmas.{edge_vertices}
use Rattle.mesh_topology.proofs.LookupLemmas.{inside, read, read_row}
use Rattle.mesh_topology.proofs.mesh.Mesh.near_edge.Goals as goal

pub returns-in-Vertex : goal.returns-in-Vertex
returns-in-Vertex c =
    read_row c.self.inside.raw c.args.self.now Edge Vertex c.args.out c.self.inside.lower.sets.edges.items c.args.e c.index.result.now (c.self.invariant.lower_tables.sets.edges ∙ edge_vertices c.self.inside.raw) c.self.view_is c.in-Vertex.is c.requires.below c.index.ensures

pub of-requires : goal.of-requires
of-requires c = inside c.self.inside.raw c.args.self.now Edge Face c.self.inside.upper.edge_faces.lists c.args.e c.self.invariant.upper_tables.edge_faces c.self.view_is c.requires.below

pub returns-in-Face : goal.returns-in-Face
returns-in-Face c =
    read c.self.inside.raw c.args.self.now Edge Face c.args.out c.self.inside.upper.edge_faces.lists c.args.e c.of.result.now c.self.invariant.upper_tables.edge_faces c.self.view_is c.in-Face.is c.requires.below c.of.ensures

pub of-requires-in-Cell : goal.of-requires-in-Cell
of-requires-in-Cell c = inside c.self.inside.raw c.args.self.now Edge Cell c.self.inside.lower.edge_cells c.args.e c.self.invariant.lower_tables.edge_cells c.self.view_is c.requires.below

pub returns-in-Cell : goal.returns-in-Cell
returns-in-Cell c =
    read c.self.inside.raw c.args.self.now Edge Cell c.args.out c.self.inside.lower.edge_cells c.args.e c.of-in-Cell.result.now c.self.invariant.lower_tables.edge_cells c.self.view_is c.in-Cell.is c.requires.below c.of-in-Cell.ensures
