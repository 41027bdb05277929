use Rattle.std.proofs.Common.{◌≡◌, ◌<◌, ◌≤◌, ◌^◌, All, length, ap, sym, subst, ◌∙◌, arith, rules}
use Rattle.liszt_base.specs.declared.elements.Kind.TheVariants.{Vertex, Edge, Face, Cell}
use Rattle.mesh_topology.specs.Elements.{count}
use Rattle.mesh_topology.specs.Internal.Incidence.{transposed}
use Rattle.mesh_topology.proofs.NearLemmas.{cell_count, vertices_are}
use Rattle.mesh_topology.proofs.CountLemmas.{few_edges_near, few_faces_near, few_sides}
use Rattle.mesh_topology.proofs.TransposeLemmas.{transposed_length}
use Rattle.mesh_topology.proofs.LowerTableLemmas.{edge_vertices, face_vertices}
use Rattle.mesh_topology.proofs.UpperTableLemmas.{transposed_near, can_transpose, are_lists_below, edge_vertex_symmetric, face_vertex_symmetric, face_edge_symmetric, cell_edge_symmetric, cell_face_symmetric, vertices_beside, cells_beside}
use Rattle.mesh_topology.proofs.upper.build_upper_tables.Goals as goal

pub overflow_cast-vertices : goal.overflow_cast-vertices
overflow_cast-vertices c =
    let mesh = c.args.raw.now in
    let n : length c.points.result.now ≡ count mesh Vertex = vertices_are mesh c.points.result.now c.points.ensures in
    let l : length c.points.result.now < 2 ^ 32 = subst (λ m. m < 2 ^ 32) (sym n) (c.requires.small.fits Vertex) in
    search rules

pub overflow_cast-edges : goal.overflow_cast-edges
overflow_cast-edges c =
    let mesh = c.args.raw.now in
    let e = ap (λ t. length t) c.requires.lower.sets.edges in
    let n : c.len-edges.result ≡ count mesh Edge = omega (arith, c.args.lower.now.sets.edges.ok.0) in
    let l : c.len-edges.result < 2 ^ 32 = subst (λ m. m < 2 ^ 32) (sym n) (c.requires.small.fits Edge) in
    search rules

pub overflow_cast-cells : goal.overflow_cast-cells
overflow_cast-cells c =
    let mesh = c.args.raw.now in
    let n : length c.cells.result.now ≡ count mesh Cell = ap (λ cs. length cs) c.cells.ensures ∙ sym (cell_count mesh) in
    let l : length c.cells.result.now < 2 ^ 32 = subst (λ m. m < 2 ^ 32) (sym n) (c.requires.small.fits Cell) in
    search rules

pub transpose-requires : goal.transpose-requires
transpose-requires c =
    let mesh = c.args.raw.now in
    let points = vertices_are mesh c.points.result.now c.points.ensures in
    (omega arith, can_transpose mesh c.requires.small Edge Vertex c.as_slice.result.now (length c.points.result.now) (c.as_slice.ensures.value ∙ (c.requires.lower.sets.edges ∙ edge_vertices mesh)) points)

pub transpose-requires-2 : goal.transpose-requires-2
transpose-requires-2 c =
    let mesh = c.args.raw.now in
    let points = vertices_are mesh c.points.result.now c.points.ensures in
    (omega arith, can_transpose mesh c.requires.small Face Vertex c.as_slice-2.result.now (length c.points.result.now) (c.as_slice-2.ensures.value ∙ (c.requires.lower.sets.faces ∙ face_vertices mesh)) points)

pub transpose-requires-3 : goal.transpose-requires-3
transpose-requires-3 c =
    let mesh = c.args.raw.now in
    let e = ap (λ t. length t) c.requires.lower.sets.edges in
    let edges : c.len-edges.result ≡ count mesh Edge = omega (arith, c.args.lower.now.sets.edges.ok.0) in
    (omega arith, can_transpose mesh c.requires.small Face Edge c.as_slice-3.result.now c.len-edges.result (c.as_slice-3.ensures.value ∙ c.requires.lower.face_edges) edges)

pub transpose_lists-requires : goal.transpose_lists-requires
transpose_lists-requires c =
    let mesh = c.args.raw.now in
    let cells = ap (λ cs. length cs) c.cells.ensures ∙ sym (cell_count mesh) in
    let is = transposed_near mesh Edge Cell (λ x y. sym (cell_edge_symmetric mesh y x)) c.args.lower.now.edge_cells (length c.cells.result.now) c.requires.lower.edge_cells cells in
    let few = subst (λ t. All (λ row. length row ≤ 6) t) (sym is) (few_edges_near mesh c.requires.small.is_mesh) in
    (omega arith, (omega arith, (can_transpose mesh c.requires.small Edge Cell c.args.lower.now.edge_cells (length c.cells.result.now) c.requires.lower.edge_cells cells, few)))

pub transpose_lists-requires-2 : goal.transpose_lists-requires-2
transpose_lists-requires-2 c =
    let mesh = c.args.raw.now in
    let cells = ap (λ cs. length cs) c.cells.ensures ∙ sym (cell_count mesh) in
    let is = transposed_near mesh Face Cell (λ x y. sym (cell_face_symmetric mesh y x)) c.args.lower.now.face_cells (length c.cells.result.now) c.requires.lower.face_cells cells in
    let few = subst (λ t. All (λ row. length row ≤ 4) t) (sym is) (few_faces_near mesh c.requires.small.is_mesh) in
    (omega arith, (omega arith, (can_transpose mesh c.requires.small Face Cell c.args.lower.now.face_cells (length c.cells.result.now) c.requires.lower.face_cells cells, few)))

pub sorted_partners-requires-clause-transposable : goal.sorted_partners-requires-clause-transposable
sorted_partners-requires-clause-transposable c =
    let mesh = c.args.raw.now in
    let cells = ap (λ cs. length cs) c.cells.ensures ∙ sym (cell_count mesh) in
    can_transpose mesh c.requires.small Face Cell c.args.lower.now.face_cells (length c.cells.result.now) c.requires.lower.face_cells cells

pub sorted_partners-requires-clause-at_most_two : goal.sorted_partners-requires-clause-at_most_two
sorted_partners-requires-clause-at_most_two c = subst (λ t. All (λ row. length row ≤ 2) t) (sym c.requires.lower.face_cells) (few_sides c.args.raw.now c.requires.small.is_mesh)

pub sorted_partners-requires-clause-few : goal.sorted_partners-requires-clause-few
sorted_partners-requires-clause-few c =
    let mesh = c.args.raw.now in
    let cells = ap (λ cs. length cs) c.cells.ensures ∙ sym (cell_count mesh) in
    let is = transposed_near mesh Face Cell (λ x y. sym (cell_face_symmetric mesh y x)) c.args.lower.now.face_cells (length c.cells.result.now) c.requires.lower.face_cells cells in
    subst (λ t. All (λ row. length row ≤ 4) t) (sym is) (few_faces_near mesh c.requires.small.is_mesh)

pub neighbour_lists-requires : goal.neighbour_lists-requires
neighbour_lists-requires c =
    let mesh = c.args.raw.now in
    let points = vertices_are mesh c.points.result.now c.points.ensures in
    let edges = c.as_slice.ensures.value ∙ (c.requires.lower.sets.edges ∙ edge_vertices mesh) in
    are_lists_below mesh c.requires.small Vertex Edge c.in_ok-vertex_edges.vertex_edges.lists c.as_slice-4.result.now (c.in_ok-vertex_edges.ensures ∙ transposed_near mesh Edge Vertex (edge_vertex_symmetric mesh) c.as_slice.result.now (length c.points.result.now) edges points) (c.as_slice-4.ensures.value ∙ (c.requires.lower.sets.edges ∙ edge_vertices mesh))

pub returns : goal.returns
returns c =
    let mesh = c.args.raw.now in
    let points = vertices_are mesh c.points.result.now c.points.ensures in
    let e = ap (λ t. length t) c.requires.lower.sets.edges in
    let edges : c.len-edges.result ≡ count mesh Edge = omega (arith, c.args.lower.now.sets.edges.ok.0) in
    let cells = ap (λ cs. length cs) c.cells.ensures ∙ sym (cell_count mesh) in
    let vertex_edges = c.in_ok-vertex_edges.ensures ∙ transposed_near mesh Edge Vertex (edge_vertex_symmetric mesh) c.as_slice.result.now (length c.points.result.now) (c.as_slice.ensures.value ∙ (c.requires.lower.sets.edges ∙ edge_vertices mesh)) points in
    let cell_faces = transposed_near mesh Face Cell (λ x y. sym (cell_face_symmetric mesh y x)) c.args.lower.now.face_cells (length c.cells.result.now) c.requires.lower.face_cells cells in
    record {
      vertex_vertices = vertices_beside mesh c.in_ok-vertex_edges.vertex_edges.lists c.as_slice-4.result.now c.in_ok-vertex_vertices.vertex_vertices vertex_edges (c.as_slice-4.ensures.value ∙ (c.requires.lower.sets.edges ∙ edge_vertices mesh)) c.in_ok-vertex_vertices.ensures;
      vertex_edges = vertex_edges;
      vertex_faces = c.in_ok-vertex_faces.ensures ∙ transposed_near mesh Face Vertex (face_vertex_symmetric mesh) c.as_slice-2.result.now (length c.points.result.now) (c.as_slice-2.ensures.value ∙ (c.requires.lower.sets.faces ∙ face_vertices mesh)) points;
      edge_faces = c.in_ok-edge_faces.ensures ∙ transposed_near mesh Face Edge (face_edge_symmetric mesh) c.as_slice-3.result.now c.len-edges.result (c.as_slice-3.ensures.value ∙ c.requires.lower.face_edges) edges;
      cell_edges = c.in_ok-cell_edges.ensures ∙ transposed_near mesh Edge Cell (λ x y. sym (cell_edge_symmetric mesh y x)) c.args.lower.now.edge_cells (length c.cells.result.now) c.requires.lower.edge_cells cells;
      cell_faces = c.in_ok-cell_faces.ensures ∙ cell_faces;
      cell_cells = cells_beside mesh (transposed c.args.lower.now.face_cells (length c.cells.result.now)) c.args.lower.now.face_cells (length c.cells.result.now) c.in_ok-cell_cells.cell_cells cell_faces c.requires.lower.face_cells (sym (transposed_length c.args.lower.now.face_cells (length c.cells.result.now))) c.in_ok-cell_cells.ensures;
    }
