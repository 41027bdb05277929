-- The results of operators and the members of sets are of the mesh.
use Rattle.std.proofs.Common.{◌≡◌, ℕ, zero, suc, ◌<◌, true, Option, Some, None, List, [], ◌∷◌, map, length, slice_get, refl, inl, inr, arith}
use Rattle.std.specs.List.{zip, AllByRecursion}
use Rattle.std.specs.Option.{option_and_then, option_map}
use Rattle.liszt_base.specs.Corners.{IsMesh}
use Rattle.liszt_base.specs.Kinds.{has_set, kind_of}
use Rattle.liszt_base.specs.MeshLists.{MeshLists}
use Rattle.liszt_base.specs.declared.elements.Elem.{Elem}
use Rattle.liszt_base.specs.declared.elements.Kind.{Kind}
use Rattle.liszt_base.specs.declared.elements.Kind.TheVariants.{Vertex, Edge, Face, Cell}
use Rattle.liszt_base.specs.declared.elements.SetName.{SetName}
use Rattle.liszt_base.specs.declared.elements.SetName.TheVariants.{Vertices, Edges, Faces, Cells, EdgesCcw}
use Rattle.mesh_topology.specs.Elements.{corner_lists, count, corners, is_incident, near, steps}
use Rattle.mesh_topology.proofs.MemberLemmas.{Member}
use Rattle.mesh_topology.proofs.NearLemmas.{filter_is, corner_set_is, vertex_count}
use Rattle.topo_operators.specs.Operands.{IsElement, IsNilOrElement, IsSetOperand}
use Rattle.topo_operators.specs.Operators.{unflipped, vertex_at, cell_at, cycle_of, edge_along, members, GoesAlong}
use Rattle.topo_operators.proofs.EdgeAlongLemmas.{face_along}

-- ids in range
abbrev AreIds : MeshLists → Kind → List ℕ → Type 0
AreIds mesh kind ids = (id : ℕ) → Member id ids → id < count mesh kind

near_ids : (mesh : MeshLists) (kind : Kind) (id : ℕ) (out : Kind) → AreIds mesh out (near mesh kind id out)
near_ids mesh kind id out v m = ((filter_is (is_incident mesh kind id out) (count mesh out)).inside v m).0

end_ids : (mesh : MeshLists) (edge : ℕ) → edge < count mesh Edge → AreIds mesh Vertex (corners mesh Edge edge)
end_ids mesh edge l v m = omega (arith, vertex_count mesh, (corner_set_is mesh Edge 2 refl edge l).below v m)

-- the element at an index, or nil
nil_or_nth : (mesh : MeshLists) (kind : Kind) (ids : List ℕ) (place : ℕ) → AreIds mesh kind ids → IsNilOrElement mesh kind (option_map (unflipped kind) (slice_get ids place))
nil_or_nth mesh kind [] place are = tt
nil_or_nth mesh kind (id ∷ ids) zero are = (refl, are id (inl refl))
nil_or_nth mesh kind (id ∷ ids) (suc place) are = nil_or_nth mesh kind ids place (λ v m. are v (inr m))

-- the elements of a list
all_elements : (mesh : MeshLists) (kind : Kind) (ids : List ℕ) → AreIds mesh kind ids → AllByRecursion (IsElement mesh kind) (map (unflipped kind) ids)
all_elements mesh kind [] are = tt
all_elements mesh kind (id ∷ ids) are = ((refl, are id (inl refl)), all_elements mesh kind ids (λ v m. are v (inr m)))

-- an operator of nil is nil
pub nil_or_result : (mesh : MeshLists) (kind out : Kind) (of : Elem → Option Elem) → ((x : Elem) → IsElement mesh kind x → IsNilOrElement mesh out (of x))
    → (x : Option Elem) → IsNilOrElement mesh kind x → IsNilOrElement mesh out (option_and_then of x)
nil_or_result mesh kind out of each None is = tt
nil_or_result mesh kind out of each (Some x) is = each x is

pub end_of : (mesh : MeshLists) (edge : Elem) (place : ℕ) → IsElement mesh Edge edge → IsNilOrElement mesh Vertex (vertex_at mesh edge place)
end_of mesh edge place is = nil_or_nth mesh Vertex (corners mesh Edge edge.id) place (end_ids mesh edge.id is.1)

pub side_of : (mesh : MeshLists) (face : Elem) (place : ℕ) → IsNilOrElement mesh Cell (cell_at mesh face place)
side_of mesh face place = nil_or_nth mesh Cell (near mesh Face face.id Cell) place (near_ids mesh Face face.id Cell)

-- edges that go along steps
along_edges : (mesh : MeshLists) (each : List (ℕ × ℕ)) → AllByRecursion (λ p. GoesAlong mesh p.0 p.1) (zip each (map (edge_along mesh) each))
    → AllByRecursion (IsElement mesh Edge) (map (edge_along mesh) each)
along_edges mesh [] go = tt
along_edges mesh (step ∷ each) go = ((go.0.is_edge, go.0.in_range), along_edges mesh each go.1)

-- only faces have edges along a cycle
is_face : (mesh : MeshLists) (kind : Kind) (id : ℕ) → id < count mesh kind → has_set kind EdgesCcw ≡ true → id < count mesh Face
is_face mesh Face id l has = l
is_face mesh Vertex id l has = cc
is_face mesh Edge id l has = cc
is_face mesh Cell id l has = cc

pub members_of : (mesh : MeshLists) (set : SetName) (x : Elem) → IsMesh (length mesh.points) (corner_lists mesh) → IsSetOperand mesh set x
    → AllByRecursion (IsElement mesh (kind_of set)) (members mesh set x)
members_of mesh Vertices x is can = all_elements mesh Vertex (near mesh x.kind x.id Vertex) (near_ids mesh x.kind x.id Vertex)
members_of mesh Edges x is can = all_elements mesh Edge (near mesh x.kind x.id Edge) (near_ids mesh x.kind x.id Edge)
members_of mesh Faces x is can = all_elements mesh Face (near mesh x.kind x.id Face) (near_ids mesh x.kind x.id Face)
members_of mesh Cells x is can = all_elements mesh Cell (near mesh x.kind x.id Cell) (near_ids mesh x.kind x.id Cell)
members_of mesh EdgesCcw x is can = along_edges mesh (steps (cycle_of mesh x)) (face_along mesh is x (is_face mesh x.kind x.id can.in_range can.kind_has_set)).1
