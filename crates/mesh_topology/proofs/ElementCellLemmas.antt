-- The cells of an element are the cells of a part of it that have one further corner.
use Rattle.std.proofs.Common.{◌≡◌, ◌⊎◌, ℕ, ◌+◌, ◌<◌, Bool, true, List, [], ◌∷◌, ◌++◌, map, length, take, get_or, slice_get, Some, filter, refl, sym, ap, subst, ◌∙◌, inl, inr, arith}
use Rattle.std.specs.List.{AllZip}
use Rattle.std.proofs.lemmas.List.{get_or-map, length-map, map-append, take_more}
use Rattle.std.proofs.lemmas.Option.{get_or_from_slice_get}
use Rattle.liszt_base.specs.Corners.{includes, is_in, IsMesh}
use Rattle.liszt_base.specs.MeshLists.{MeshLists}
use Rattle.liszt_base.specs.declared.elements.Kind.{Kind}
use Rattle.liszt_base.specs.declared.elements.Kind.TheVariants.{Vertex, Edge, Face, Cell}
use Rattle.mesh_topology.specs.Internal.Combinations.{combinations, AreRanks}
use Rattle.mesh_topology.specs.Elements.{corner_lists, elements, count, corners, one_includes_other, is_incident, near}
use Rattle.mesh_topology.specs.Internal.Incidence.{cells_with, AreEdgeCornerPairs, ArePairsInRange}
use Rattle.mesh_topology.specs.Internal.Tables.{near_lists}
use Rattle.mesh_topology.proofs.MemberLemmas.{Member, contained_member, in_member, included, includes_by, member_at, member_in, member_kept, member_of_kept}
use Rattle.mesh_topology.proofs.NearLemmas.{IsFilter, IsCornerSet, cell_is, is_filter, filter_is, kept_rises, more_right, corner_set_is, vertex_count, vertex_is}
use Rattle.mesh_topology.proofs.LowerTableLemmas.{near_lists_at, near_lists_are, near_lists_length}
use Rattle.mesh_topology.proofs.LookupLemmas.{two_listed}
use Rattle.mesh_topology.proofs.ListLemmas.{zip_at}
use Rattle.mesh_topology.proofs.UpperTableLemmas.{cell_vertex_symmetric, rows_below}

-- the next pair
pub with_step : (cells pairs lists all new : List (List ℕ)) (i : ℕ) (list some : List ℕ) → i < length pairs → slice_get lists (get_or (get_or pairs i []) 0 0) ≡ Some list
    → some ≡ filter (λ id. is_in (get_or cells id []) (get_or (get_or pairs i []) 1 0)) list → all ≡ map (cells_with cells lists) (take i pairs) → new ≡ all ++ some ∷ []
    → new ≡ map (cells_with cells lists) (take (i + 1) pairs)
with_step cells pairs lists all new i list some l f is so e =
    let pair = get_or pairs i [] in
    let one = get_or_from_slice_get lists (get_or pair 0 0) list [] f in
    let here : some ≡ cells_with cells lists pair = is ∙ ap (λ xs. filter (λ id. is_in (get_or cells id []) (get_or pair 1 0)) xs) (sym one) in
    e ∙ (ap (λ xs. xs ++ some ∷ []) so ∙ (ap (λ c. map (cells_with cells lists) (take i pairs) ++ c ∷ []) here
    ∙ (sym (map-append (cells_with cells lists) (take i pairs) (pair ∷ [])) ∙ ap (λ xs. map (cells_with cells lists) xs) (sym (take_more pairs i [] l)))))

-- a cell includes an element and a vertex if and only if it includes a second element
pub record Covers (mesh : MeshLists) (kind out : Kind) (x v id : ℕ) : Type 0 where
  pub first : x < count mesh kind
  pub second : v < count mesh Vertex
  pub both : (c : ℕ) → c < count mesh Cell → is_incident mesh kind x Cell c ≡ true → is_incident mesh Vertex v Cell c ≡ true → is_incident mesh out id Cell c ≡ true
  pub each : (c : ℕ) → c < count mesh Cell → is_incident mesh out id Cell c ≡ true → (is_incident mesh kind x Cell c ≡ true) × (is_incident mesh Vertex v Cell c ≡ true)

kept_near : (mesh : MeshLists) (kind out : Kind) (x v id : ℕ) (cells : List (List ℕ)) → cells ≡ near_lists mesh Cell Vertex → Covers mesh kind out x v id
    → filter (λ c. is_in (get_or cells c []) v) (near mesh kind x Cell) ≡ near mesh out id Cell
kept_near mesh kind out x v id cells rows covers = is_filter (is_incident mesh out id Cell) (count mesh Cell) some (record { ascending = kept_rises has (near mesh kind x Cell) one.ascending; inside = inside; all = all }) where
  has : ℕ → Bool
  has c = is_in (get_or cells c []) v

  some : List ℕ
  some = filter has (near mesh kind x Cell)

  one : IsFilter (is_incident mesh kind x Cell) (count mesh Cell) (near mesh kind x Cell)
  one = filter_is (is_incident mesh kind x Cell) (count mesh Cell)

  two : (c : ℕ) → IsFilter (is_incident mesh Cell c Vertex) (count mesh Vertex) (near mesh Cell c Vertex)
  two c = filter_is (is_incident mesh Cell c Vertex) (count mesh Vertex)

  row_at : (c : ℕ) → c < count mesh Cell → get_or cells c [] ≡ near mesh Cell c Vertex
  row_at c l = ap (λ t. get_or t c []) rows ∙ near_lists_at mesh Cell Vertex c l

  inside : (c : ℕ) → Member c some → (c < count mesh Cell) × (is_incident mesh out id Cell c ≡ true)
  inside c m =
      let k = member_of_kept has (near mesh kind x Cell) c m in
      let a = one.inside c k.0 in
      let b = (two c).inside v (subst (λ row. Member v row) (row_at c a.0) (in_member (get_or cells c []) v k.1)) in
      (a.0, covers.both c a.0 a.1 (sym (cell_vertex_symmetric mesh c v) ∙ b.1))

  all : (c : ℕ) → c < count mesh Cell → is_incident mesh out id Cell c ≡ true → Member c some
  all c l t =
      let e = covers.each c l t in
      let m = subst (λ row. Member v row) (sym (row_at c l)) ((two c).all v covers.second (cell_vertex_symmetric mesh c v ∙ e.1)) in
      member_kept has (near mesh kind x Cell) c (one.all c l e.0) (member_in (get_or cells c []) v m)

-- the same by corners
covers_by : (mesh : MeshLists) → IsMesh (length mesh.points) (corner_lists mesh) → (kind out : Kind) (x v id : ℕ) (one all : List ℕ)
    → ((c : ℕ) → is_incident mesh kind x Cell c ≡ one_includes_other (corners mesh kind x) (corners mesh Cell c)) → ((c : ℕ) → is_incident mesh out id Cell c ≡ one_includes_other (corners mesh out id) (corners mesh Cell c))
    → x < count mesh kind → v < length mesh.points → corners mesh kind x ≡ one → corners mesh out id ≡ all → length one < 4 → length all < 4
    → ((w : ℕ) → Member w one → Member w all) → Member v all → ((w : ℕ) → Member w all → Member w one ⊎ (v ≡ w)) → Covers mesh kind out x v id
covers_by mesh is kind out x v id one all tx tid lx lv ex eid fx fid inx inv parts = record { first = lx; second = omega (arith, lv, vertex_count mesh); both = both; each = each } where
  test : (set : List ℕ) (c : ℕ) → c < count mesh Cell → length set < 4 → one_includes_other set (corners mesh Cell c) ≡ includes (corners mesh Cell c) set
  test set c l few = let cell = cell_is mesh is c l in more_right set (corners mesh Cell c) cell.1 (omega (arith, cell.0))

  at_x : (c : ℕ) → c < count mesh Cell → is_incident mesh kind x Cell c ≡ includes (corners mesh Cell c) one
  at_x c l = tx c ∙ (ap (λ s. one_includes_other s (corners mesh Cell c)) ex ∙ test one c l fx)

  at_v : (c : ℕ) → c < count mesh Cell → is_incident mesh Vertex v Cell c ≡ includes (corners mesh Cell c) (v ∷ [])
  at_v c l = ap (λ s. one_includes_other s (corners mesh Cell c)) (vertex_is mesh v lv) ∙ test (v ∷ []) c l (omega arith)

  at_id : (c : ℕ) → c < count mesh Cell → is_incident mesh out id Cell c ≡ includes (corners mesh Cell c) all
  at_id c l = tid c ∙ (ap (λ s. one_includes_other s (corners mesh Cell c)) eid ∙ test all c l fid)

  both : (c : ℕ) → c < count mesh Cell → is_incident mesh kind x Cell c ≡ true → is_incident mesh Vertex v Cell c ≡ true → is_incident mesh out id Cell c ≡ true
  both c l a b = at_id c l ∙ includes_by (corners mesh Cell c) all (λ w m. elim (parts w m) [
    | inl k ↦ included (corners mesh Cell c) one w (sym (at_x c l) ∙ a) k
    | inr e ↦ included (corners mesh Cell c) (v ∷ []) w (sym (at_v c l) ∙ b) (inl e)
  ])

  each : (c : ℕ) → c < count mesh Cell → is_incident mesh out id Cell c ≡ true → (is_incident mesh kind x Cell c ≡ true) × (is_incident mesh Vertex v Cell c ≡ true)
  each c l t =
      let i = sym (at_id c l) ∙ t in (
        at_x c l ∙ includes_by (corners mesh Cell c) one (λ w m. included (corners mesh Cell c) all w i (inx w m)),
        at_v c l ∙ includes_by (corners mesh Cell c) (v ∷ []) (λ w m. alone w i m),
      )
    where
      alone : (w : ℕ) → includes (corners mesh Cell c) all ≡ true → Member w (v ∷ []) → Member w (corners mesh Cell c)
      alone w i (inl e) = subst (λ u. Member u (corners mesh Cell c)) e (included (corners mesh Cell c) all v i inv)
      alone w i (inr m) = absurd m

-- an edge by its ends
edge_covers : (mesh : MeshLists) → IsMesh (length mesh.points) (corner_lists mesh) → (id : ℕ) → id < count mesh Edge → Covers mesh Vertex Edge (get_or (corners mesh Edge id) 0 0) (get_or (corners mesh Edge id) 1 0) id
edge_covers mesh is id l =
    covers_by mesh is Vertex Edge a b id (a ∷ []) (a ∷ b ∷ []) (λ c. refl) (λ c. refl) (omega (arith, below_a, vertex_count mesh)) below_b (vertex_is mesh a below_a) (two_listed (corners mesh Edge id) r.size_is)
    (omega arith) (omega arith) first (inr (inl refl)) part
  where
    r : IsCornerSet (length mesh.points) 2 (corners mesh Edge id)
    r = corner_set_is mesh Edge 2 refl id l

    a : ℕ
    a = get_or (corners mesh Edge id) 0 0

    b : ℕ
    b = get_or (corners mesh Edge id) 1 0

    below_a : a < length mesh.points
    below_a = r.below a (member_at (corners mesh Edge id) 0 0 (omega (arith, r.size_is)))

    below_b : b < length mesh.points
    below_b = r.below b (member_at (corners mesh Edge id) 1 0 (omega (arith, r.size_is)))

    first : (w : ℕ) → Member w (a ∷ []) → Member w (a ∷ b ∷ [])
    first w (inl e) = inl e
    first w (inr m) = absurd m

    part : (w : ℕ) → Member w (a ∷ b ∷ []) → Member w (a ∷ []) ⊎ (b ≡ w)
    part w (inl e) = inl (inl e)
    part w (inr (inl e)) = inr e
    part w (inr (inr m)) = absurd m

-- the first edge of a face
pub record IsFirstOf (table : List (List ℕ)) (t ids : List ℕ) : Type 0 where
  pub below : get_or ids 0 0 < length table
  pub all : t ≡ get_or t 0 0 ∷ get_or t 1 0 ∷ get_or t 2 0 ∷ []
  pub is : get_or table (get_or ids 0 0) [] ≡ get_or t 0 0 ∷ get_or t 1 0 ∷ []

first_edge_of_face : (table : List (List ℕ)) (t ids : List ℕ) → length t ≡ 3 → AreRanks table (combinations 2 t) ids → IsFirstOf table t ids
first_edge_of_face table (a ∷ b ∷ c ∷ []) (i ∷ ids) l r = record { below = r.below i (contained_member (i ∷ ids) i (inl refl)); all = refl; is = ap (λ xs. get_or xs 0 []) r.sets_are }
first_edge_of_face table (a ∷ b ∷ c ∷ []) [] l r = absurd (let e = ap (λ xs. length xs) r.sets_are in omega arith)
first_edge_of_face table [] ids l r = absurd (omega arith)
first_edge_of_face table (a ∷ []) ids l r = absurd (omega arith)
first_edge_of_face table (a ∷ b ∷ []) ids l r = absurd (omega arith)
first_edge_of_face table (a ∷ b ∷ c ∷ d ∷ t) ids l r = absurd (omega arith)

-- a face by its first edge and its last corner
face_covers : (mesh : MeshLists) → IsMesh (length mesh.points) (corner_lists mesh) → (ids : List ℕ) (id : ℕ) → id < count mesh Face → AreRanks (elements mesh Edge) (combinations 2 (corners mesh Face id)) ids
    → Covers mesh Edge Face (get_or ids 0 0) (get_or (corners mesh Face id) 2 0) id
face_covers mesh is ids id l ranks =
    covers_by mesh is Edge Face (get_or ids 0 0) c id (a ∷ b ∷ []) (a ∷ b ∷ c ∷ []) (λ c. refl) (λ c. refl) one.below (r.below c (member_at (corners mesh Face id) 2 0 (omega (arith, r.size_is)))) one.is one.all
    (omega arith) (omega arith) first (inr (inr (inl refl))) part
  where
    r : IsCornerSet (length mesh.points) 3 (corners mesh Face id)
    r = corner_set_is mesh Face 3 refl id l

    one : IsFirstOf (elements mesh Edge) (corners mesh Face id) ids
    one = first_edge_of_face (elements mesh Edge) (corners mesh Face id) ids r.size_is ranks

    a : ℕ
    a = get_or (corners mesh Face id) 0 0

    b : ℕ
    b = get_or (corners mesh Face id) 1 0

    c : ℕ
    c = get_or (corners mesh Face id) 2 0

    first : (w : ℕ) → Member w (a ∷ b ∷ []) → Member w (a ∷ b ∷ c ∷ [])
    first w (inl e) = inl e
    first w (inr (inl e)) = inr (inl e)
    first w (inr (inr m)) = absurd m

    part : (w : ℕ) → Member w (a ∷ b ∷ c ∷ []) → Member w (a ∷ b ∷ []) ⊎ (c ≡ w)
    part w (inl e) = inl (inl e)
    part w (inr (inl e)) = inl (inr (inl e))
    part w (inr (inr (inl e))) = inr e
    part w (inr (inr (inr m))) = absurd m

-- the cells of edges and of faces
pub record HasCellsOf (mesh : MeshLists) (out : Kind) (cells pairs lists : List (List ℕ)) : Type 0 where
  pub has : ArePairsInRange cells pairs lists
  pub are : map (cells_with cells lists) pairs ≡ near_lists mesh out Cell

has_cells_of : (mesh : MeshLists) (kind out : Kind) (cells pairs lists : List (List ℕ)) → cells ≡ near_lists mesh Cell Vertex → lists ≡ near_lists mesh kind Cell → length pairs ≡ count mesh out
    → ((id : ℕ) → id < count mesh out → Covers mesh kind out (get_or (get_or pairs id []) 0 0) (get_or (get_or pairs id []) 1 0) id) → HasCellsOf mesh out cells pairs lists
has_cells_of mesh kind out cells pairs lists rows e length_is covers = record {
  has = record {
    places = λ id l. subst (λ n. get_or (get_or pairs id []) 0 0 < n) (sym (ap (λ t. length t) e ∙ near_lists_length mesh kind Cell)) (covers id (omega (arith, length_is))).first;
    below = rows_below mesh kind Cell lists (length cells) e (ap (λ t. length t) rows ∙ near_lists_length mesh Cell Vertex);
  };
  are = near_lists_are mesh out Cell (map (cells_with cells lists) pairs) (length-map pairs (cells_with cells lists) ∙ length_is) at;
} where
  at : (id : ℕ) → id < count mesh out → get_or (map (cells_with cells lists) pairs) id [] ≡ near mesh out id Cell
  at id l =
      let pair = get_or pairs id [] in
      let c = covers id l in
      let list = ap (λ t. get_or t (get_or pair 0 0) []) e ∙ near_lists_at mesh kind Cell (get_or pair 0 0) c.first in
      get_or-map (cells_with cells lists) pairs id [] [] (omega (arith, length_is))
      ∙ (ap (λ xs. filter (λ id. is_in (get_or cells id []) (get_or pair 1 0)) xs) list ∙ kept_near mesh kind out (get_or pair 0 0) (get_or pair 1 0) id cells rows c)

pub edges_have : (mesh : MeshLists) → IsMesh (length mesh.points) (corner_lists mesh) → (cells pairs lists : List (List ℕ)) → cells ≡ near_lists mesh Cell Vertex → pairs ≡ elements mesh Edge
    → lists ≡ near_lists mesh Vertex Cell → HasCellsOf mesh Edge cells pairs lists
edges_have mesh is cells pairs lists rows e f =
    has_cells_of mesh Vertex Edge cells pairs lists rows f (ap (λ t. length t) e) (λ id l. subst (λ t. Covers mesh Vertex Edge (get_or (get_or t id []) 0 0) (get_or (get_or t id []) 1 0) id) (sym e) (edge_covers mesh is id l))

pub faces_have : (mesh : MeshLists) → IsMesh (length mesh.points) (corner_lists mesh) → (cells faces edges face_edges pairs lists : List (List ℕ)) → cells ≡ near_lists mesh Cell Vertex → faces ≡ elements mesh Face
    → edges ≡ elements mesh Edge → AllZip (λ corners ids. AreRanks edges (combinations 2 corners) ids) faces face_edges → AreEdgeCornerPairs faces face_edges pairs → lists ≡ near_lists mesh Edge Cell → HasCellsOf mesh Face cells pairs lists
faces_have mesh is cells faces edges face_edges pairs lists rows e f all so h =
    has_cells_of mesh Edge Face cells pairs lists rows h (so.length_is ∙ ap (λ t. length t) e) covers
  where
    covers : (id : ℕ) → id < count mesh Face → Covers mesh Edge Face (get_or (get_or pairs id []) 0 0) (get_or (get_or pairs id []) 1 0) id
    covers id l =
        let here : id < length faces = subst (λ fs. id < length fs) (sym e) l in
        let z = zip_at (λ corners ids. AreRanks edges (combinations 2 corners) ids) faces face_edges id [] [] all here in
        let y = subst (λ es. AreRanks es (combinations 2 (get_or faces id [])) (get_or face_edges id [])) f z in
        let x = subst (λ fs. AreRanks (elements mesh Edge) (combinations 2 (get_or fs id [])) (get_or face_edges id [])) e y in
        let c = face_covers mesh is (get_or face_edges id []) id l x in
        let d = subst (λ fs. Covers mesh Edge Face (get_or (get_or face_edges id []) 0 0) (get_or (get_or fs id []) 2 0) id) (sym e) c in
        subst (λ pair. Covers mesh Edge Face (get_or pair 0 0) (get_or pair 1 0) id) (sym (so.at id here)) d
