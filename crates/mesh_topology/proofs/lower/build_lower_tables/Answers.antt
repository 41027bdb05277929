use Rattle.std.proofs.Common.{◌≡◌, ◌<◌, ◌^◌, length, refl, ap, sym, subst, ◌∙◌, arith, rules}
use Rattle.liszt_base.specs.declared.elements.Kind.TheVariants.{Vertex, Edge}
use Rattle.std.specs.List.{AllZip}
use Rattle.mesh_topology.specs.Internal.Combinations.{combinations, AreRanks}
use Rattle.mesh_topology.specs.Elements.{count}
use Rattle.mesh_topology.specs.Internal.Incidence.{AreEdgeCornerPairs}
use Rattle.mesh_topology.proofs.NearLemmas.{vertices_are}
use Rattle.mesh_topology.proofs.TableLemmas.{small_table, indexed}
use Rattle.mesh_topology.proofs.LowerTableLemmas.{face_has, face_edges, row_vertices}
use Rattle.mesh_topology.proofs.ListLemmas.{zip_length}
use Rattle.mesh_topology.proofs.ElementCellLemmas.{edges_have, faces_have}
use Rattle.mesh_topology.proofs.lower.build_lower_tables.Goals as goal

pub overflow_cast-vertices : goal.overflow_cast-vertices
overflow_cast-vertices c =
    let e : length c.points.result.now ≡ count c.args.raw.now Vertex = vertices_are c.args.raw.now c.points.result.now c.points.ensures in
    let l : length c.points.result.now < 2 ^ 32 = subst (λ n. n < 2 ^ 32) (sym e) (c.requires.fits Vertex) in
    search rules

pub starts-requires : goal.starts-requires
starts-requires c =
    let s = c.in_ok-sets.ensures in
    (omega arith, small_table c.args.raw.now c.requires Edge 2 refl c.as_slice.result.now (c.as_slice.ensures.value ∙ s.edges))

pub face_edges-requires-clause-table : goal.face_edges-requires-clause-table
face_edges-requires-clause-table c =
    let s = c.in_ok-sets.ensures in
    let points = ap (λ ps. length ps) c.points.ensures in
    indexed c.args.raw.now c.requires Edge 2 refl (omega arith) c.as_slice.result.now c.as_slice-2.result.now c.in_ok-edge_starts.edge_starts.items c.as_slice-3.result.now (length c.points.result.now)
    (c.as_slice.ensures.value ∙ s.edges) (c.as_slice-2.ensures.value ∙ s.edges) c.in_ok-edge_starts.ensures c.as_slice-3.ensures.value points

pub face_edges-requires-clause-inside : goal.face_edges-requires-clause-inside
face_edges-requires-clause-inside c =
    let s = c.in_ok-sets.ensures in
    face_has c.args.raw.now c.requires.is_mesh c.as_slice-4.result.now c.as_slice-2.result.now (c.as_slice-4.ensures.value ∙ s.faces) (c.as_slice-2.ensures.value ∙ s.edges)

pub selected_cells-requires : goal.selected_cells-requires
selected_cells-requires c =
    let mesh = c.args.raw.now in
    let s = c.in_ok-sets.ensures in
    let rows = row_vertices mesh c.requires.is_mesh c.in_ok-sets.sets.cells.items s.cells in
    (edges_have mesh c.requires.is_mesh c.as_slice-5.result.now c.as_slice-6.result.now c.in_ok-sets.sets.vertex_cells (c.as_slice-5.ensures.value ∙ rows) (c.as_slice-6.ensures.value ∙ s.edges) s.vertex_cells).has

pub edge_corner_pairs-requires : goal.edge_corner_pairs-requires
edge_corner_pairs-requires c =
    let length_is = zip_length (λ corners ids. AreRanks c.as_slice-2.result.now (combinations 2 corners) ids) c.as_slice-4.result.now c.in_ok-face_edges.face_edges.items c.in_ok-face_edges.ensures in
    ap (λ t. length t) (c.as_slice-7.ensures.value ∙ sym c.as_slice-4.ensures.value) ∙ (length_is ∙ ap (λ t. length t) (sym c.as_slice-8.ensures.value))

pub selected_cells-requires-2 : goal.selected_cells-requires-2
selected_cells-requires-2 c =
    let mesh = c.args.raw.now in
    let s = c.in_ok-sets.ensures in
    let rows = row_vertices mesh c.requires.is_mesh c.in_ok-sets.sets.cells.items s.cells in
    let edges = edges_have mesh c.requires.is_mesh c.as_slice-5.result.now c.as_slice-6.result.now c.in_ok-sets.sets.vertex_cells (c.as_slice-5.ensures.value ∙ rows) (c.as_slice-6.ensures.value ∙ s.edges) s.vertex_cells in
    let table = c.in_ok-face_edges.face_edges.items in
    let one = subst (λ fs. AllZip (λ corners ids. AreRanks c.as_slice-2.result.now (combinations 2 corners) ids) fs table) (c.as_slice-4.ensures.value ∙ sym c.as_slice-7.ensures.value) c.in_ok-face_edges.ensures in
    let all = subst (λ ids. AllZip (λ corners ids. AreRanks c.as_slice-2.result.now (combinations 2 corners) ids) c.as_slice-7.result.now ids) (sym c.as_slice-8.ensures.value) one in
    let pairs = subst (λ ps. AreEdgeCornerPairs c.as_slice-7.result.now c.as_slice-8.result.now ps) (sym c.as_slice-10.ensures.value) c.in_ok-pairs.ensures in
    (faces_have mesh c.requires.is_mesh c.as_slice-9.result.now c.as_slice-7.result.now c.as_slice-2.result.now c.as_slice-8.result.now c.as_slice-10.result.now c.in_ok-edge_cells.edge_cells
    (c.as_slice-9.ensures.value ∙ rows) (c.as_slice-7.ensures.value ∙ s.faces) (c.as_slice-2.ensures.value ∙ s.edges) all pairs (c.in_ok-edge_cells.ensures ∙ edges.are)).has

pub returns : goal.returns
returns c =
    let mesh = c.args.raw.now in
    let s = c.in_ok-sets.ensures in
    let rows = row_vertices mesh c.requires.is_mesh c.in_ok-sets.sets.cells.items s.cells in
    let edges = edges_have mesh c.requires.is_mesh c.as_slice-5.result.now c.as_slice-6.result.now c.in_ok-sets.sets.vertex_cells (c.as_slice-5.ensures.value ∙ rows) (c.as_slice-6.ensures.value ∙ s.edges) s.vertex_cells in
    let table = c.in_ok-face_edges.face_edges.items in
    let one = subst (λ fs. AllZip (λ corners ids. AreRanks c.as_slice-2.result.now (combinations 2 corners) ids) fs table) (c.as_slice-4.ensures.value ∙ sym c.as_slice-7.ensures.value) c.in_ok-face_edges.ensures in
    let all = subst (λ ids. AllZip (λ corners ids. AreRanks c.as_slice-2.result.now (combinations 2 corners) ids) c.as_slice-7.result.now ids) (sym c.as_slice-8.ensures.value) one in
    let pairs = subst (λ ps. AreEdgeCornerPairs c.as_slice-7.result.now c.as_slice-8.result.now ps) (sym c.as_slice-10.ensures.value) c.in_ok-pairs.ensures in
    let faces = faces_have mesh c.requires.is_mesh c.as_slice-9.result.now c.as_slice-7.result.now c.as_slice-2.result.now c.as_slice-8.result.now c.as_slice-10.result.now c.in_ok-edge_cells.edge_cells
    (c.as_slice-9.ensures.value ∙ rows) (c.as_slice-7.ensures.value ∙ s.faces) (c.as_slice-2.ensures.value ∙ s.edges) all pairs (c.in_ok-edge_cells.ensures ∙ edges.are) in
    record {
      sets = s;
      face_edges = face_edges mesh c.as_slice-4.result.now c.as_slice-2.result.now table (c.as_slice-4.ensures.value ∙ s.faces) (c.as_slice-2.ensures.value ∙ s.edges) c.in_ok-face_edges.ensures;
      edge_cells = c.in_ok-edge_cells.ensures ∙ edges.are;
      face_cells = c.in_ok-face_cells.ensures ∙ faces.are;
    }
