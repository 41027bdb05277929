-- The contents of the tables of a mesh. This project's own.
use Rattle.std.specs.Prelude.{◌≡◌, ℕ, ◌<◌, ◌^◌, List, map, length}
use Rattle.std.specs.List.{AllZip}
use Rattle.liszt_base.specs.Corners.{IsMesh}
use Rattle.liszt_base.specs.MeshLists.{MeshLists}
use Rattle.liszt_base.specs.declared.elements.Kind.{Kind}
use Rattle.liszt_base.specs.declared.elements.Kind.TheVariants.{Vertex, Edge, Face, Cell}
use Rattle.mesh_topology.specs.declared.lower.CornerTables.{CornerTables}
use Rattle.mesh_topology.specs.declared.lower.LowerTables.{LowerTables}
use Rattle.mesh_topology.specs.declared.upper.UpperTables.{UpperTables}
use Rattle.mesh_topology.specs.Internal.Combinations.{AreSortedCorners}
use Rattle.mesh_topology.specs.Elements.{numbers, corner_lists, elements, count, near}

-- for each element of `kind` the ids of the elements of `out` that are near it
unfoldable pub near_lists : MeshLists → Kind → Kind → List (List ℕ)
near_lists mesh kind out = map (λ id. near mesh kind id out) (numbers 0 (count mesh kind))

-- a mesh whose elements can be numbered by 32 bits
pub record IsSmallMesh (mesh : MeshLists) : Type 0 where
  pub is_mesh : IsMesh (length mesh.points) (corner_lists mesh)
  pub fits : (kind : Kind) → count mesh kind < 2 ^ 32

-- the corners of each edge, face and cell, ascending, and the cells of each vertex
pub record AreCornerTables (mesh : MeshLists) (t : CornerTables) : Type 0 where
  pub edges : t.edges.items ≡ elements mesh Edge
  pub faces : t.faces.items ≡ elements mesh Face
  pub cells : AllZip AreSortedCorners mesh.cells t.cells.items
  pub vertex_cells : t.vertex_cells ≡ near_lists mesh Vertex Cell

-- the corner tables, the edges of each face, and the cells of each edge and face
pub record AreLowerTables (mesh : MeshLists) (t : LowerTables) : Type 0 where
  pub sets : AreCornerTables mesh t.sets
  pub face_edges : t.face_edges.items ≡ near_lists mesh Face Edge
  pub edge_cells : t.edge_cells ≡ near_lists mesh Edge Cell
  pub face_cells : t.face_cells ≡ near_lists mesh Face Cell

-- the tables that are computed from the lower ones
pub record AreUpperTables (mesh : MeshLists) (t : UpperTables) : Type 0 where
  pub vertex_vertices : t.vertex_vertices ≡ near_lists mesh Vertex Vertex
  pub vertex_edges : t.vertex_edges.lists ≡ near_lists mesh Vertex Edge
  pub vertex_faces : t.vertex_faces.lists ≡ near_lists mesh Vertex Face
  pub edge_faces : t.edge_faces.lists ≡ near_lists mesh Edge Face
  pub cell_edges : t.cell_edges ≡ near_lists mesh Cell Edge
  pub cell_faces : t.cell_faces ≡ near_lists mesh Cell Face
  pub cell_cells : t.cell_cells ≡ near_lists mesh Cell Cell

-- all tables of a mesh
pub record HasTables (mesh : MeshLists) (lower : LowerTables) (upper : UpperTables) : Type 0 where
  pub small : IsSmallMesh mesh
  pub lower_tables : AreLowerTables mesh lower
  pub upper_tables : AreUpperTables mesh upper
