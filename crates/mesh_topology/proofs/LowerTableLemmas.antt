-- The lower tables are those of the definitions.
use Rattle.std.proofs.Common.{◌≡◌, ℕ, ◌<◌, ◌≤◌, true, List, [], length, get_or, refl, sym, ap, subst, ◌∙◌, arith, ltb-true, nat_lt}
use Rattle.std.specs.List.{All, AllZip}
use Rattle.std.proofs.lemmas.List.{ext_get_or, get_or-map, length-map}
use Rattle.liszt_base.specs.Corners.{includes, are_different, IsMesh}
use Rattle.liszt_base.specs.MeshLists.{MeshLists}
use Rattle.liszt_base.specs.declared.elements.Kind.{Kind}
use Rattle.liszt_base.specs.declared.elements.Kind.TheVariants.{Vertex, Edge, Face, Cell}
use Rattle.mesh_topology.specs.Internal.Combinations.{combinations, AreRanks, HasCombinations, AreSortedCorners}
use Rattle.mesh_topology.specs.Elements.{numbers, corner_lists, elements, count, corners, one_includes_other, is_incident, near, HasCorners}
use Rattle.mesh_topology.specs.Internal.Tables.{near_lists}
use Rattle.mesh_topology.proofs.MemberLemmas.{Member, all_at, any_found, member_at, member_contained, contained_member, included}
use Rattle.mesh_topology.proofs.RankLemmas.{element_is}
use Rattle.mesh_topology.proofs.FaceEdgeLemmas.{placed}
use Rattle.mesh_topology.proofs.CombinationLemmas.{IsAscending, combination_is}
use Rattle.mesh_topology.proofs.ListLemmas.{zip_at, zip_length}
use Rattle.mesh_topology.proofs.NearLemmas.{long_numbers, at_numbers, more_left, corner_set_is, cell_is, ranks_kept, vertices_kept, AreRows, are_rows, in_cell}

-- NEAR LISTS OF ALL ELEMENTS

pub near_lists_length : (mesh : MeshLists) (kind out : Kind) → length (near_lists mesh kind out) ≡ count mesh kind
unfolding near_lists
near_lists_length mesh kind out = length-map (numbers 0 (count mesh kind)) (λ id. near mesh kind id out) ∙ long_numbers (count mesh kind)

pub near_lists_at : (mesh : MeshLists) (kind out : Kind) (id : ℕ) → id < count mesh kind → get_or (near_lists mesh kind out) id [] ≡ near mesh kind id out
unfolding near_lists
near_lists_at mesh kind out id l =
    let n : id < length (numbers 0 (count mesh kind)) = omega (arith, long_numbers (count mesh kind)) in
    get_or-map (λ id. near mesh kind id out) (numbers 0 (count mesh kind)) id 0 [] n ∙ ap (λ id. near mesh kind id out) (at_numbers (count mesh kind) id 0 l)

pub near_lists_are : (mesh : MeshLists) (kind out : Kind) (lists : List (List ℕ)) → length lists ≡ count mesh kind
    → ((id : ℕ) → id < count mesh kind → get_or lists id [] ≡ near mesh kind id out) → lists ≡ near_lists mesh kind out
near_lists_are mesh kind out lists length_is at =
    ext_get_or [] lists (near_lists mesh kind out) (length_is ∙ sym (near_lists_length mesh kind out)) (λ id l. at id (omega (arith, length_is)) ∙ sym (near_lists_at mesh kind out id (omega (arith, length_is))))

-- VERTICES

-- the vertices of an edge or a face are its corners
rising_vertices : (mesh : MeshLists) (kind : Kind) (size : ℕ) → HasCorners kind size → 2 ≤ size
    → ((id y : ℕ) → is_incident mesh kind id Vertex y ≡ one_includes_other (corners mesh kind id) (corners mesh Vertex y)) → elements mesh kind ≡ near_lists mesh kind Vertex
rising_vertices mesh kind size h two test = near_lists_are mesh kind Vertex (elements mesh kind) refl at where
  at : (id : ℕ) → id < count mesh kind → corners mesh kind id ≡ near mesh kind id Vertex
  at id l =
      let e = corner_set_is mesh kind size h id l in
      vertices_kept mesh (corners mesh kind id) (corners mesh kind id) e.different (omega (arith, e.size_is)) e.below e.ascending (λ x m. m) (λ x m. m) (is_incident mesh kind id Vertex) (λ v k. test id v)

pub edge_vertices : (mesh : MeshLists) → elements mesh Edge ≡ near_lists mesh Edge Vertex
edge_vertices mesh = rising_vertices mesh Edge 2 refl (omega arith) (λ id y. refl)

pub face_vertices : (mesh : MeshLists) → elements mesh Face ≡ near_lists mesh Face Vertex
face_vertices mesh = rising_vertices mesh Face 3 refl (omega arith) (λ id y. refl)

-- the vertices of a cell are its corners in ascending order
pub cell_vertices : (mesh : MeshLists) → IsMesh (length mesh.points) (corner_lists mesh) → (rows : List (List ℕ)) → AreRows mesh rows → rows ≡ near_lists mesh Cell Vertex
cell_vertices mesh is rows are = near_lists_are mesh Cell Vertex rows are.length_is at where
  at : (id : ℕ) → id < count mesh Cell → get_or rows id [] ≡ near mesh Cell id Vertex
  at id l =
      let c = cell_is mesh is id l in
      let r = are.row id l in
      vertices_kept mesh (corners mesh Cell id) (get_or rows id []) c.1 (omega (arith, c.0)) (λ x m. ltb-true x (length mesh.points) (all_at (λ v. nat_lt v (length mesh.points)) (corners mesh Cell id) x c.2 m)) r.ascending r.out r.back (is_incident mesh Cell id Vertex) (λ v k. refl)

-- from the table of sorted corners
pub row_vertices : (mesh : MeshLists) → IsMesh (length mesh.points) (corner_lists mesh) → (rows : List (List ℕ)) → AllZip AreSortedCorners mesh.cells rows → rows ≡ near_lists mesh Cell Vertex
row_vertices mesh is rows all = cell_vertices mesh is rows (are_rows mesh is rows all)

-- EDGES AND FACES

-- all pairs of corners of a face are edges
pub face_has : (mesh : MeshLists) → IsMesh (length mesh.points) (corner_lists mesh) → (faces edges : List (List ℕ)) → faces ≡ elements mesh Face → edges ≡ elements mesh Edge
    → All (HasCombinations 2 edges) faces
face_has mesh is faces edges e f = subst (λ fs. All (HasCombinations 2 edges) fs) (sym e) (subst (λ es. All (HasCombinations 2 es) (elements mesh Face)) (sym f) has) where
  has : All (HasCombinations 2 (elements mesh Edge)) (elements mesh Face)
  has id d l set c =
      let face = get_or (elements mesh Face) id d in
      let m = member_at (elements mesh Face) id d l in
      let r = element_is mesh Face 3 refl face m in
      let one = any_found (λ corners. includes corners face) (corner_lists mesh) r.2 in
      let p = placed (corner_lists mesh) one.0 [] one.1 in
      let at = placed (elements mesh Face) face [] m in
      let ascending = subst (λ s. IsAscending s) at.2 (corner_set_is mesh Face 3 refl at.0 at.1).ascending in
      let choice = combination_is 2 face set ascending (member_contained (combinations 2 face) set c) in
      let out = λ (x : ℕ) (k : Member x face). subst (λ cs. Member x cs) (sym p.2) (included one.0 face x one.2 k) in
      contained_member (elements mesh Edge) set (in_cell mesh is p.0 p.1 Edge 2 refl face set choice out)

-- the ids of a face's edges
pub face_edges : (mesh : MeshLists) (faces edges rows : List (List ℕ)) → faces ≡ elements mesh Face → edges ≡ elements mesh Edge
    → AllZip (λ corners ids. AreRanks edges (combinations 2 corners) ids) faces rows → rows ≡ near_lists mesh Face Edge
face_edges mesh faces edges rows e f all = near_lists_are mesh Face Edge rows length_is at where
  length_is : length rows ≡ count mesh Face
  length_is = sym (zip_length (λ corners ids. AreRanks edges (combinations 2 corners) ids) faces rows all) ∙ ap (λ fs. length fs) e

  at : (id : ℕ) → id < count mesh Face → get_or rows id [] ≡ near mesh Face id Edge
  at id l =
      let h = corner_set_is mesh Face 3 refl id l in
      let z = zip_at (λ corners ids. AreRanks edges (combinations 2 corners) ids) faces rows id [] [] all (subst (λ fs. id < length fs) (sym e) l) in
      let y = subst (λ es. AreRanks es (combinations 2 (get_or faces id [])) (get_or rows id [])) f z in
      let x = subst (λ fs. AreRanks (elements mesh Edge) (combinations 2 (get_or fs id [])) (get_or rows id [])) e y in
      ranks_kept mesh Edge 2 refl (corners mesh Face id) (get_or rows id []) h.ascending x (is_incident mesh Face id Edge) (test h.different h.size_is)
    where
      test : are_different (corners mesh Face id) ≡ true → length (corners mesh Face id) ≡ 3 → (y : ℕ) → y < count mesh Edge → is_incident mesh Face id Edge y ≡ includes (corners mesh Face id) (corners mesh Edge y)
      test d three y k = let g = corner_set_is mesh Edge 2 refl y k in more_left (corners mesh Face id) (corners mesh Edge y) d (omega (arith, three, g.size_is))
