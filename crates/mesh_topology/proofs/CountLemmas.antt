-- Upper bounds of the numbers of edges, faces and incident elements.
use Rattle.std.proofs.Common.{◌≡◌, ℕ, ◌*◌, ◌<◌, ◌≤◌, ◌^◌, List, [], ◌∷◌, ◌++◌, length, map, get_or, flat_map, All, true, refl, sym, ap, subst, ◌∙◌, inl, inr, arith, length-append, ltb-true, nat_lt}
use Rattle.std.proofs.lemmas.List.{get_or_default, length-map}
use Rattle.liszt_base.specs.Corners.{includes, IsCell, IsMesh}
use Rattle.liszt_base.specs.MeshLists.{MeshLists}
use Rattle.liszt_base.specs.declared.elements.Kind.{Kind}
use Rattle.liszt_base.specs.declared.elements.Kind.TheVariants.{Vertex, Edge, Face, Cell}
use Rattle.mesh_topology.specs.Internal.Combinations.{combinations}
use Rattle.mesh_topology.specs.Elements.{corner_lists, elements, count, corners, one_includes_other, is_incident, near, HasCorners}
use Rattle.mesh_topology.specs.Internal.Tables.{near_lists}
use Rattle.mesh_topology.proofs.MemberLemmas.{Member, all_at, included, includes_by, member_at, member_mapped, member_parted, member_left, member_right, no_longer}
use Rattle.mesh_topology.proofs.OrderLemmas.{Pairs, pairs_of, between_pairs, different, Before, not_before_itself}
use Rattle.mesh_topology.proofs.RankLemmas.{ordered}
use Rattle.mesh_topology.proofs.FaceEdgeLemmas.{placed}
use Rattle.mesh_topology.proofs.SideLemmas.{one_or_two}
use Rattle.mesh_topology.proofs.CombinationLemmas.{IsAscending, is_combination}
use Rattle.mesh_topology.proofs.NearLemmas.{IsFilter, filter_is, corner_set_is, cell_is, cell_count, vertex_count, vertex_is, more_left, HasRow, AreRows, table_members}
use Rattle.mesh_topology.proofs.LowerTableLemmas.{near_lists_length, near_lists_at}

-- a list split at a member
pub record IsSplit {A : Type 0} (x : A) (ys : List A) : Type 0 where
  pub front : List A
  pub rest : List A
  pub is : ys ≡ front ++ x ∷ rest

parted : {A : Type 0} (x : A) (ys : List A) → Member x ys → IsSplit x ys
parted x [] m = absurd m
parted x (y ∷ ys) (inl e) = record { front = []; rest = ys; is = ap (λ v. v ∷ ys) e }
parted x (y ∷ ys) (inr m) = let p = parted x ys m in record { front = y ∷ p.front; rest = p.rest; is = ap (λ v. y ∷ v) p.is }

-- a list of different members of another list is no longer than that list
no_more : {A : Type 0} (xs ys : List A) → Pairs (λ x y. x ≡ y → ⊥) xs → ((x : A) → Member x xs → Member x ys) → length xs ≤ length ys
no_more [] ys d h = omega arith
no_more {A} (x ∷ xs) ys d h =
    let p = parted x ys (h x (inl refl)) in
    let rest = no_more xs (p.front ++ p.rest) d.1 (λ z m. others p.front p.rest z (λ e. d.0 z m e) (subst (λ v. Member z v) p.is (h z (inr m)))) in
    let length_is : length ys ≡ length (p.front ++ x ∷ p.rest) = ap (λ v. length v) p.is in
    omega (arith, length-append p.front (x ∷ p.rest), length-append p.front p.rest)
  where
    others : (us vs : List A) (z : A) → (x ≡ z → ⊥) → Member z (us ++ x ∷ vs) → Member z (us ++ vs)
    others us vs z ne m = elim (member_parted us (x ∷ vs) z m) [
      | inl n ↦ member_left us vs z n
      | inr n ↦ elim n [ inl e ↦ absurd (ne e) | inr k ↦ member_right us vs z k ]
    ]

-- the members of a lexicographically ordered list are different
before_different : (xs : List (List ℕ)) → Pairs Before xs → Pairs (λ x y. x ≡ y → ⊥) xs
before_different [] p = tt
before_different (x ∷ xs) p = (λ y m e. not_before_itself y (subst (λ v. Before v y) e (p.0 y m)), before_different xs p.1)

-- the concatenation of pieces of one length
pieces_length : {A B : Type 0} (f : A → List B) (n : ℕ) (xs : List A) → ((x : A) → Member x xs → length (f x) ≡ n) → length (flat_map f xs) ≡ n * length xs
pieces_length f n [] h = omega arith
pieces_length f n (x ∷ xs) h =
    let one = h x (inl refl) in
    let more = pieces_length f n xs (λ y m. h y (inr m)) in
    omega (arith, length-append (f x) (flat_map f xs))

-- the vertices near a cell are its corners in ascending order
near_rows : (mesh : MeshLists) → IsMesh (length mesh.points) (corner_lists mesh) → AreRows mesh (near_lists mesh Cell Vertex)
near_rows mesh is = record { length_is = near_lists_length mesh Cell Vertex; row = row } where
  test : (cell v : ℕ) → cell < count mesh Cell → v < count mesh Vertex → is_incident mesh Cell cell Vertex v ≡ includes (corners mesh Cell cell) (v ∷ [])
  test cell v l m =
      let c = cell_is mesh is cell l in
      let v_is = vertex_is mesh v (subst (λ n. v < n) (vertex_count mesh) m) in
      ap (λ s. one_includes_other (corners mesh Cell cell) s) v_is ∙ more_left (corners mesh Cell cell) (v ∷ []) c.1 (omega (arith, c.0))

  row : (cell : ℕ) → cell < count mesh Cell → HasRow (corners mesh Cell cell) (get_or (near_lists mesh Cell Vertex) cell [])
  row cell l = subst (λ r. HasRow (corners mesh Cell cell) r) (sym (near_lists_at mesh Cell Vertex cell l)) (record { ascending = k.ascending; out = out; back = back }) where
    k : IsFilter (is_incident mesh Cell cell Vertex) (count mesh Vertex) (near mesh Cell cell Vertex)
    k = filter_is (is_incident mesh Cell cell Vertex) (count mesh Vertex)

    out : (x : ℕ) → Member x (near mesh Cell cell Vertex) → Member x (corners mesh Cell cell)
    out x m = let i = k.inside x m in included (corners mesh Cell cell) (x ∷ []) x (sym (test cell x l i.0) ∙ i.1) (inl refl)

    back : (x : ℕ) → Member x (corners mesh Cell cell) → Member x (near mesh Cell cell Vertex)
    back x m =
        let c = cell_is mesh is cell l in
        let b = ltb-true x (length mesh.points) (all_at (λ v. nat_lt v (length mesh.points)) (corners mesh Cell cell) x c.2 m) in
        let n : x < count mesh Vertex = subst (λ n. x < n) (sym (vertex_count mesh)) b in
        k.all x n (test cell x l n ∙ includes_by (corners mesh Cell cell) (x ∷ []) (λ y o. one y o))
      where
        one : (y : ℕ) → Member y (x ∷ []) → Member y (corners mesh Cell cell)
        one y (inl e) = subst (λ v. Member v (corners mesh Cell cell)) e m
        one y (inr f) = absurd f

-- a row has four members
row_four : (mesh : MeshLists) → IsMesh (length mesh.points) (corner_lists mesh) → (rows : List (List ℕ)) → AreRows mesh rows → (row : List ℕ) → Member row rows → length row ≡ 4
row_four mesh is rows are row m =
    let p = placed rows row [] m in
    let l : p.0 < count mesh Cell = omega (arith, are.length_is, p.1) in
    let c = cell_is mesh is p.0 l in
    let r = subst (λ v. HasRow (corners mesh Cell p.0) v) p.2 (are.row p.0 l) in
    let below = λ (x : ℕ) (k : Member x row). ltb-true x (length mesh.points) (all_at (λ v. nat_lt v (length mesh.points)) (corners mesh Cell p.0) x c.2 (r.out x k)) in
    let d = different 0 (length mesh.points) row (between_pairs 0 (length mesh.points) row r.ascending (λ x k. (omega arith, below x k))) in
    let one = no_longer row (corners mesh Cell p.0) d r.out in
    let two = no_longer (corners mesh Cell p.0) row c.1 r.back in
    omega (arith, c.0)

four_two : (row : List ℕ) → length row ≡ 4 → length (combinations 2 row) ≡ 6
four_two (a ∷ b ∷ c ∷ d ∷ []) l = refl
four_two [] l = absurd (omega arith)
four_two (a ∷ []) l = absurd (omega arith)
four_two (a ∷ b ∷ []) l = absurd (omega arith)
four_two (a ∷ b ∷ c ∷ []) l = absurd (omega arith)
four_two (a ∷ b ∷ c ∷ d ∷ e ∷ xs) l = absurd (omega arith)

four_three : (row : List ℕ) → length row ≡ 4 → length (combinations 3 row) ≡ 4
four_three (a ∷ b ∷ c ∷ d ∷ []) l = refl
four_three [] l = absurd (omega arith)
four_three (a ∷ []) l = absurd (omega arith)
four_three (a ∷ b ∷ []) l = absurd (omega arith)
four_three (a ∷ b ∷ c ∷ []) l = absurd (omega arith)
four_three (a ∷ b ∷ c ∷ d ∷ e ∷ xs) l = absurd (omega arith)

few : (mesh : MeshLists) → IsMesh (length mesh.points) (corner_lists mesh) → (kind : Kind) (size n : ℕ) → HasCorners kind size → ((row : List ℕ) → length row ≡ 4 → length (combinations size row) ≡ n)
    → count mesh kind ≤ n * length mesh.cells
few mesh is kind size n h many =
    let rows = near_lists mesh Cell Vertex in
    let are = near_rows mesh is in
    let apart = before_different (elements mesh kind) (pairs_of Before (elements mesh kind) (ordered mesh kind size h)) in
    let most = no_more (elements mesh kind) (flat_map (combinations size) rows) apart (table_members mesh is rows are kind size h) in
    let length_is = pieces_length (combinations size) n rows (λ row m. many row (row_four mesh is rows are row m)) in
    let all : length rows ≡ length mesh.cells = are.length_is ∙ cell_count mesh in
    subst (λ m. count mesh kind ≤ n * m) all (subst (λ m. count mesh kind ≤ m) length_is most)

-- a mesh has at most six edges and four faces for each cell
pub few_edges : (mesh : MeshLists) → IsMesh (length mesh.points) (corner_lists mesh) → count mesh Edge ≤ 6 * length mesh.cells
few_edges mesh is = few mesh is Edge 2 6 refl four_two

pub few_faces : (mesh : MeshLists) → IsMesh (length mesh.points) (corner_lists mesh) → count mesh Face ≤ 4 * length mesh.cells
few_faces mesh is = few mesh is Face 3 4 refl four_three

-- bounds of points and cells bound the elements of each kind
pub fits : (mesh : MeshLists) → IsMesh (length mesh.points) (corner_lists mesh) → length mesh.points < 2 ^ 32 → 6 * length mesh.cells < 2 ^ 32 → (kind : Kind) → count mesh kind < 2 ^ 32
fits mesh is points cells Vertex = subst (λ n. n < 2 ^ 32) (sym (vertex_count mesh)) points
fits mesh is points cells Edge = let e = few_edges mesh is in omega arith
fits mesh is points cells Face = let e = few_faces mesh is in omega arith
fits mesh is points cells Cell = let e = cell_count mesh in omega arith

-- a cell is near at most as many elements of `size` corners as there are combinations of its corners
rows_few : (mesh : MeshLists) → IsMesh (length mesh.points) (corner_lists mesh) → (kind : Kind) (size n : ℕ) → HasCorners kind size → size < 4 → ((row : List ℕ) → length row ≡ 4 → length (combinations size row) ≡ n)
    → ((cell y : ℕ) → is_incident mesh Cell cell kind y ≡ one_includes_other (corners mesh Cell cell) (corners mesh kind y)) → All (λ row. length row ≤ n) (near_lists mesh Cell kind)
rows_few mesh is kind size n h less many test = each where
  near_few : (cell : ℕ) → cell < count mesh Cell → length (near mesh Cell cell kind) ≤ n
  near_few cell l =
      let c = cell_is mesh is cell l in
      let rows = near_lists mesh Cell Vertex in
      let are = near_rows mesh is in
      let row = get_or rows cell [] in
      let r = are.row cell l in
      let k = filter_is (is_incident mesh Cell cell kind) (count mesh kind) in
      let ids = near mesh Cell cell kind in
      let sets = map (λ y. corners mesh kind y) ids in
      let apart = before_different sets (pairs_before ids (λ y m. (k.inside y m).0) k.ascending) in
      let most = no_more sets (combinations size row) apart (λ set m. chosen c r ids (λ y m. k.inside y m) set m) in
      let length_is = many row (row_four mesh is rows are row (member_at rows cell [] (omega (arith, are.length_is)))) in
      omega (arith, most, length_is, length-map ids (λ y. corners mesh kind y))
    where
      chosen : IsCell (length mesh.points) (corners mesh Cell cell) → HasRow (corners mesh Cell cell) (get_or (near_lists mesh Cell Vertex) cell []) → (ids : List ℕ)
          → ((y : ℕ) → Member y ids → (y < count mesh kind) × (is_incident mesh Cell cell kind y ≡ true)) → (set : List ℕ) → Member set (map (λ y. corners mesh kind y) ids)
          → Member set (combinations size (get_or (near_lists mesh Cell Vertex) cell []))
      chosen c r ids inside set m =
          let t = member_mapped (λ y. corners mesh kind y) ids set m in
          let i = inside t.0 t.1 in
          let e = corner_set_is mesh kind size h t.0 i.0 in
          let one = sym (more_left (corners mesh Cell cell) (corners mesh kind t.0) c.1 (omega (arith, c.0, e.size_is))) ∙ (sym (test cell t.0) ∙ i.1) in
          let here = is_combination size (get_or (near_lists mesh Cell Vertex) cell []) (corners mesh kind t.0) r.ascending
          (record { size_is = e.size_is; ascending = e.ascending; inside = λ x n. r.back x (included (corners mesh Cell cell) (corners mesh kind t.0) x one n) }) in
          subst (λ s. Member s (combinations size (get_or (near_lists mesh Cell Vertex) cell []))) t.2 here

      pairs_before : (ids : List ℕ) → ((y : ℕ) → Member y ids → y < count mesh kind) → IsAscending ids → Pairs Before (map (λ y. corners mesh kind y) ids)
      pairs_before [] below up = tt
      pairs_before (x ∷ ids) below up = (
        λ set m. let t = member_mapped (λ y. corners mesh kind y) ids set m in subst (λ s. Before (corners mesh kind x) s) t.2 (ordered mesh kind size h x t.0 [] (up.0 t.0 t.1) (below t.0 (inr t.1))),
        pairs_before ids (λ y m. below y (inr m)) up.1,
      )

  each : All (λ row. length row ≤ n) (near_lists mesh Cell kind)
  each cell d l =
      let k : cell < count mesh Cell = subst (λ m. cell < m) (near_lists_length mesh Cell kind) l in
      let e : get_or (near_lists mesh Cell kind) cell d ≡ near mesh Cell cell kind = get_or_default (near_lists mesh Cell kind) cell d [] l ∙ near_lists_at mesh Cell kind cell k in
      subst (λ row. length row ≤ n) (sym e) (near_few cell k)

pub few_edges_near : (mesh : MeshLists) → IsMesh (length mesh.points) (corner_lists mesh) → All (λ row. length row ≤ 6) (near_lists mesh Cell Edge)
few_edges_near mesh is = rows_few mesh is Edge 2 6 refl (omega arith) four_two (λ cell y. refl)

pub few_faces_near : (mesh : MeshLists) → IsMesh (length mesh.points) (corner_lists mesh) → All (λ row. length row ≤ 4) (near_lists mesh Cell Face)
few_faces_near mesh is = rows_few mesh is Face 3 4 refl (omega arith) four_three (λ cell y. refl)

-- a face has at most two cells beside it
pub few_sides : (mesh : MeshLists) → IsMesh (length mesh.points) (corner_lists mesh) → All (λ row. length row ≤ 2) (near_lists mesh Face Cell)
few_sides mesh is face d l =
    let k : face < count mesh Face = subst (λ m. face < m) (near_lists_length mesh Face Cell) l in
    let e : get_or (near_lists mesh Face Cell) face d ≡ near mesh Face face Cell = get_or_default (near_lists mesh Face Cell) face d [] l ∙ near_lists_at mesh Face Cell face k in
    subst (λ row. length row ≤ 2) (sym e) (one_or_two mesh is face k).1
