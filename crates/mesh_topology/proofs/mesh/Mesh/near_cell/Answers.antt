use Rattle.std.proofs.Common.{arith}
use Rattle.liszt_base.specs.declared.elements.Kind.TheVariants.{Vertex, Edge, Face, Cell}
use Rattle.mesh_topology.proofs.LowerTableLemmas.{row_vertices}
use Rattle.mesh_topology.proofs.LookupLemmas.{inside, read, read_row}
use Rattle.mesh_topology.proofs.mesh.Mesh.near_cell.Goals as goal

pub index-requires : goal.index-requires
index-requires c =
    let l = inside c.self.inside.raw c.args.self.now Cell Vertex c.self.inside.lower.sets.cells.items c.args.c (row_vertices c.self.inside.raw c.self.invariant.small.is_mesh c.self.inside.lower.sets.cells.items c.self.invariant.lower_tables.sets.cells) c.self.view_is c.requires in
    omega (arith, c.self.inside.lower.sets.cells.ok.0)

pub returns-in-Vertex : goal.returns-in-Vertex
returns-in-Vertex c =
    read_row c.self.inside.raw c.args.self.now Cell Vertex c.args.out c.self.inside.lower.sets.cells.items c.args.c c.index.result.now (row_vertices c.self.inside.raw c.self.invariant.small.is_mesh c.self.inside.lower.sets.cells.items c.self.invariant.lower_tables.sets.cells) c.self.view_is c.in-Vertex.is c.requires c.index.ensures

pub of-requires : goal.of-requires
of-requires c = (omega arith, inside c.self.inside.raw c.args.self.now Cell Edge c.self.inside.upper.cell_edges c.args.c c.self.invariant.upper_tables.cell_edges c.self.view_is c.requires)

pub returns-in-Edge : goal.returns-in-Edge
returns-in-Edge c =
    read c.self.inside.raw c.args.self.now Cell Edge c.args.out c.self.inside.upper.cell_edges c.args.c c.of.result.now c.self.invariant.upper_tables.cell_edges c.self.view_is c.in-Edge.is c.requires c.of.ensures

pub of-requires-in-Face : goal.of-requires-in-Face
of-requires-in-Face c = (omega arith, inside c.self.inside.raw c.args.self.now Cell Face c.self.inside.upper.cell_faces c.args.c c.self.invariant.upper_tables.cell_faces c.self.view_is c.requires)

pub returns-in-Face : goal.returns-in-Face
returns-in-Face c =
    read c.self.inside.raw c.args.self.now Cell Face c.args.out c.self.inside.upper.cell_faces c.args.c c.of-in-Face.result.now c.self.invariant.upper_tables.cell_faces c.self.view_is c.in-Face.is c.requires c.of-in-Face.ensures

pub of-requires-in-Cell : goal.of-requires-in-Cell
of-requires-in-Cell c = inside c.self.inside.raw c.args.self.now Cell Cell c.self.inside.upper.cell_cells c.args.c c.self.invariant.upper_tables.cell_cells c.self.view_is c.requires

pub returns-in-Cell : goal.returns-in-Cell
returns-in-Cell c =
    read c.self.inside.raw c.args.self.now Cell Cell c.args.out c.self.inside.upper.cell_cells c.args.c c.of-in-Cell.result.now c.self.invariant.upper_tables.cell_cells c.self.view_is c.in-Cell.is c.requires c.of-in-Cell.ensures
