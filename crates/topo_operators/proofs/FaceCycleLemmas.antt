-- The first side and the cycle of a face are of the mesh.
use Rattle.std.proofs.Common.{◌≡◌, ℕ, ◌<◌, List, [], ◌∷◌, length, get_or, refl, sym, subst, inl, arith}
use Rattle.std.proofs.lemmas.Bool.{and_parts}
use Rattle.std.specs.List.{All}
use Rattle.liszt_base.specs.Corners.{includes, IsMesh}
use Rattle.liszt_base.specs.MeshLists.{MeshLists}
use Rattle.liszt_base.specs.declared.elements.Elem.{Elem}
use Rattle.liszt_base.specs.declared.elements.Kind.TheVariants.{Vertex, Face, Cell}
use Rattle.mesh_topology.specs.Elements.{corner_lists, count, corners, is_incident, sides}
use Rattle.mesh_topology.proofs.MemberLemmas.{Member, included, member_at}
use Rattle.mesh_topology.proofs.NearLemmas.{filter_is, corner_set_is, vertex_count}
use Rattle.mesh_topology.proofs.FaceEdgeLemmas.{GoesThrough, both_through}
use Rattle.topo_operators.specs.Operators.{cycle_of}

-- the first side of a face is a cell of the mesh
pub first_side : (mesh : MeshLists) (face side : ℕ) (rest : List ℕ) → sides mesh face ≡ side ∷ rest → side < count mesh Cell
first_side mesh face side rest e = ((filter_is (is_incident mesh Face face Cell) (count mesh Cell)).inside side (subst (λ xs. Member side xs) (sym e) (inl refl))).0

-- a face has a cycle
pub some_cycle : (mesh : MeshLists) → IsMesh (length mesh.points) (corner_lists mesh) → (face : Elem) → face.id < count mesh Face → [] ≡ cycle_of mesh face → ⊥
some_cycle mesh is face l e =
    let g = subst (λ cycle. GoesThrough (corners mesh Face face.id) cycle) (sym e) (both_through mesh is face.id l face.flipped) in
    omega (arith, g.three)

-- the cycle's members are vertices of the mesh
pub vertices_in : (mesh : MeshLists) → IsMesh (length mesh.points) (corner_lists mesh) → (face : Elem) → face.id < count mesh Face → (cycle : List ℕ)
    → cycle ≡ cycle_of mesh face → All (λ v. v < count mesh Vertex) cycle
vertices_in mesh is face l cycle e k d less =
    let t = corners mesh Face face.id in
    let g = subst (λ z. GoesThrough (corners mesh Face face.id) z) (sym e) (both_through mesh is face.id l face.flipped) in
    let m = included t cycle (get_or cycle k d) (and_parts (includes cycle t) (includes t cycle) g.same).1 (member_at cycle k d less) in
    omega (arith, vertex_count mesh, (corner_set_is mesh Face 3 refl face.id l).below (get_or cycle k d) m)
