use Rattle.std.proofs.Common.{◌≡◌, ◌<◌, ◌^◌, length, refl, sym, subst, ◌∙◌, arith, rules}
use Rattle.std.specs.List.{AllZip}
use Rattle.liszt_base.specs.declared.elements.Kind.TheVariants.{Vertex, Edge, Face, Cell}
use Rattle.mesh_topology.specs.Internal.Combinations.{AreSortedCorners}
use Rattle.mesh_topology.specs.Internal.Incidence.{AreVertexCells}
use Rattle.mesh_topology.specs.Elements.{count}
use Rattle.mesh_topology.proofs.NearLemmas.{vertices_are}
use Rattle.mesh_topology.proofs.LowerTableLemmas.{row_vertices}
use Rattle.mesh_topology.proofs.UpperTableLemmas.{can_transpose, cell_vertex_symmetric, transposed_near}
use Rattle.mesh_topology.proofs.TableLemmas.{elements_are}
use Rattle.mesh_topology.proofs.FirstCornerLemmas.{cells_of_vertices}
use Rattle.mesh_topology.proofs.lower.build_corner_tables.Goals as goal

pub overflow_cast-vertices : goal.overflow_cast-vertices
overflow_cast-vertices c =
    let e : length c.points.result.now ≡ count c.args.raw.now Vertex = vertices_are c.args.raw.now c.points.result.now c.points.ensures in
    let l : length c.points.result.now < 2 ^ 32 = subst (λ n. n < 2 ^ 32) (sym e) (c.requires.fits Vertex) in
    search rules

pub transpose-requires : goal.transpose-requires
transpose-requires c =
    let mesh = c.args.raw.now in
    let n = vertices_are mesh c.points.result.now c.points.ensures in
    let all = subst (λ cs. AllZip AreSortedCorners cs c.in_ok-cells.cells.items) c.cells.ensures c.in_ok-cells.ensures in
    (omega arith, can_transpose mesh c.requires Cell Vertex c.as_slice.result.now (length c.points.result.now) (c.as_slice.ensures.value ∙ row_vertices mesh c.requires.is_mesh c.in_ok-cells.cells.items all) n)

pub edges-requires : goal.edges-requires
edges-requires c =
    let mesh = c.args.raw.now in
    let lists = c.in_ok-vertex_cells.vertex_cells in
    let n = vertices_are mesh c.points.result.now c.points.ensures in
    let each = cells_of_vertices mesh c.requires c.cells.result.now c.in_ok-cells.cells.items c.as_slice.result.now lists (length c.points.result.now) c.cells.ensures c.in_ok-cells.ensures c.as_slice.ensures.value n (c.in_ok-vertex_cells.ensures ∙ c.in_ok-transposed.ensures) in
    subst (λ rows. AreVertexCells rows lists) (sym c.as_slice-2.ensures.value) each

pub faces-requires : goal.faces-requires
faces-requires c =
    let mesh = c.args.raw.now in
    let lists = c.in_ok-vertex_cells.vertex_cells in
    let n = vertices_are mesh c.points.result.now c.points.ensures in
    let each = cells_of_vertices mesh c.requires c.cells.result.now c.in_ok-cells.cells.items c.as_slice.result.now lists (length c.points.result.now) c.cells.ensures c.in_ok-cells.ensures c.as_slice.ensures.value n (c.in_ok-vertex_cells.ensures ∙ c.in_ok-transposed.ensures) in
    subst (λ rows. AreVertexCells rows lists) (sym c.as_slice-3.ensures.value) each

pub returns : goal.returns
returns c =
    let mesh = c.args.raw.now in
    let cells = c.cells.result.now in
    let rows = c.in_ok-cells.cells.items in
    let all = c.in_ok-cells.ensures in
    let n = vertices_are mesh c.points.result.now c.points.ensures in
    let near = c.as_slice.ensures.value ∙ row_vertices mesh c.requires.is_mesh rows (subst (λ cs. AllZip AreSortedCorners cs rows) c.cells.ensures all) in
    record {
      edges = elements_are mesh c.requires Edge 2 refl cells rows c.as_slice-2.result.now c.in_ok-edges.edges.items c.cells.ensures all c.as_slice-2.ensures.value c.in_ok-edges.ensures;
      faces = elements_are mesh c.requires Face 3 refl cells rows c.as_slice-3.result.now c.in_ok-faces.faces.items c.cells.ensures all c.as_slice-3.ensures.value c.in_ok-faces.ensures;
      cells = subst (λ cs. AllZip AreSortedCorners cs rows) c.cells.ensures all;
      vertex_cells = c.in_ok-vertex_cells.ensures ∙ (c.in_ok-transposed.ensures ∙ transposed_near mesh Cell Vertex (cell_vertex_symmetric mesh) c.as_slice.result.now (length c.points.result.now) near n);
    }
