-- The sets with each first corner, in the order of first corners.
use Rattle.std.proofs.Common.{◌≡◌, ◌↔◌, ◌⊎◌, ℕ, ◌+◌, ◌*◌, ◌/◌, ◌%◌, ◌<◌, ◌^◌, true, Bool, List, [], ◌∷◌, ◌++◌, length, map, take, get_or, filter, flat_map, All, AllPairs, Contains, refl, sym, ap, subst, ◌∙◌, inl, inr, arith, eqb-true, eq-eqb, ltb-true, lt-ltb}
use Rattle.std.specs.List.{AllZip}
use Rattle.std.proofs.lemmas.Bool.{cases_eq}
use Rattle.std.proofs.lemmas.List.{flat_map_more, take_more}
use Rattle.std.proofs.lemmas.Nat.{div-mul-add, mod-mul-add}
use Rattle.std.proofs.Math.Nat.{div-add-mod, mod-lt}
use Rattle.liszt_base.specs.Corners.{is_in}
use Rattle.liszt_base.specs.MeshLists.{MeshLists}
use Rattle.liszt_base.specs.declared.elements.Kind.TheVariants.{Vertex, Cell}
use Rattle.liszt_base.specs.declared.mesh.RawCell.{RawCell}
use Rattle.mesh_topology.specs.Internal.Combinations.{begins_with, combinations, first_corner, AreSortedCorners, IsTableBelow, IsTableOf}
use Rattle.mesh_topology.specs.Elements.{numbers, count}
use Rattle.mesh_topology.specs.Internal.Tables.{IsSmallMesh}
use Rattle.mesh_topology.specs.Internal.Incidence.{members_above, combinations_from, is_above, key, keys_in, pair, triple, transposed, AreVertexCells, CanTranspose, IsSetOf}
use Rattle.mesh_topology.proofs.MemberLemmas.{Member, in_member, member_in, member_at, member_contained, contained_member, member_left, member_right, member_parted, member_flat, member_flattened, member_map, member_mapped, member_kept, member_of_kept}
use Rattle.mesh_topology.proofs.OrderLemmas.{all_pairs, pairs_of, pairs_append, pairs_map, Before, before_first, before_more}
use Rattle.mesh_topology.proofs.CombinationLemmas.{combination_is, is_combination, IsAscending}
use Rattle.mesh_topology.proofs.FaceEdgeLemmas.{placed}
use Rattle.mesh_topology.proofs.NearLemmas.{below_range, range_below}
use Rattle.mesh_topology.proofs.LowerTableLemmas.{row_vertices}
use Rattle.mesh_topology.proofs.UpperTableLemmas.{can_transpose}
use Rattle.mesh_topology.proofs.TransposeLemmas.{transposed_at, transposed_length}

-- the next row
pub keys_step : (rows : List (List ℕ)) (first : ℕ) (ids : List ℕ) (i : ℕ) (sets : List (List ℕ)) (mid new : List ℕ) → i < length ids → sets ≡ combinations 3 (get_or rows (get_or ids i 0) [])
    → mid ≡ keys_in rows first (take i ids) → new ≡ mid ++ map key (filter (begins_with first) sets) → new ≡ keys_in rows first (take (i + 1) ids)
keys_step rows first ids i sets mid new l one so is =
    let f = λ (id : ℕ). map key (filter (begins_with first) (combinations 3 (get_or rows id []))) in
    is ∙ (ap (λ xs. xs ++ map key (filter (begins_with first) sets)) so ∙ (ap (λ xs. keys_in rows first (take i ids) ++ map key (filter (begins_with first) xs)) one
    ∙ (flat_map_more f [] (take i ids) (get_or ids i 0) ∙ ap (λ xs. keys_in rows first xs) (sym (take_more ids i 0 l)))))

-- a set with a smaller first corner is before one with a larger one
before_later : (v : ℕ) (a b : List ℕ) → first_corner a < v → first_corner b ≡ v → Before a b
before_later v a [] l e = absurd (omega arith)
before_later v [] (y ∷ b) l e = refl
before_later v (x ∷ a) (y ∷ b) l e = before_first x y a b (omega arith)

-- the sets with the next first corner
pub table_step : (sets rotation_from_is table block new : List (List ℕ)) (v : ℕ) → ((set : List ℕ) → Contains rotation_from_is set ↔ (Contains sets set × (first_corner set ≡ v))) → IsTableBelow sets table v → IsTableOf rotation_from_is block
    → new ≡ table ++ block → IsTableBelow sets new (v + 1)
table_step sets rotation_from_is table block new v are so one is = subst (λ t. IsTableBelow sets t (v + 1)) (sym is) (record { ordered = ordered; members = λ set. (there set, back set) }) where
  in_table : (set : List ℕ) → Member set table → Contains sets set × (first_corner set < v)
  in_table set m = (so.members set).0 (contained_member table set m)

  in_block : (set : List ℕ) → Member set block → Contains sets set × (first_corner set ≡ v)
  in_block set m = (are set).0 ((one.members set).0 (contained_member block set m))

  ordered : AllPairs Before (table ++ block)
  ordered = all_pairs Before (table ++ block) (pairs_append Before table block (pairs_of Before table so.ordered) (pairs_of Before block one.ordered) (λ x y m n. before_later v x y (in_table x m).1 (in_block y n).1))

  there : (set : List ℕ) → Contains (table ++ block) set → Contains sets set × (first_corner set < v + 1)
  there set c = elim (member_parted table block set (member_contained (table ++ block) set c)) [
    | inl m ↦ let h = in_table set m in (h.0, omega (arith, h.1))
    | inr m ↦ let h = in_block set m in (h.0, omega (arith, h.1))
  ]

  back : (set : List ℕ) → Contains sets set × (first_corner set < v + 1) → Contains (table ++ block) set
  back set h = elim (cases_eq (first_corner set) v) [
    | inl e ↦ contained_member (table ++ block) set (member_right table block set (member_contained block set ((one.members set).1 ((are set).1 (h.0, e)))))
    | inr ne ↦ contained_member (table ++ block) set (member_left table block set (member_contained table set ((so.members set).1 (h.0, omega (arith, h.1)))))
  ]

-- the combinations of rows that begin with a number are those of the rows that contain it
begins : (size v : ℕ) (row set : List ℕ) → 0 < size → AllPairs (λ x y. x < y) row → Member set (combinations size row) → first_corner set ≡ v → is_in row v ≡ true
begins size v row set some up m e = go set (combination_is size row set (pairs_of (λ x y. x < y) row up) m).size_is (combination_is size row set (pairs_of (λ x y. x < y) row up) m).inside e where
  go : (set : List ℕ) → length set ≡ size → ((x : ℕ) → Member x set → Member x row) → first_corner set ≡ v → is_in row v ≡ true
  go [] l inside f = absurd (omega arith)
  go (x ∷ set) l inside f = member_in row v (subst (λ y. Member y row) f (inside x (inl refl)))

pub combinations_from_are : (size : ℕ) (cells lists : List (List ℕ)) (v : ℕ) → 0 < size → AreVertexCells cells lists → v < length lists → (set : List ℕ)
    → Contains (combinations_from size cells v (get_or lists v [])) set ↔ (Contains (flat_map (combinations size) cells) set × (first_corner set ≡ v))
combinations_from_are size cells lists v some h l set = (there, back) where
  f : ℕ → List (List ℕ)
  f id = filter (begins_with v) (combinations size (get_or cells id []))

  has : ℕ → Bool
  has id = is_in (get_or cells id []) v

  ids : get_or lists v [] ≡ filter has (numbers 0 (length cells))
  ids = ap (λ xs. get_or xs v []) h.transposed_cells ∙ transposed_at cells (length lists) v l

  there : Contains (combinations_from size cells v (get_or lists v [])) set → Contains (flat_map (combinations size) cells) set × (first_corner set ≡ v)
  there c =
      let m = member_flattened f (get_or lists v []) set (member_contained (combinations_from size cells v (get_or lists v [])) set c) in
      let k = member_of_kept (begins_with v) (combinations size (get_or cells m.0 [])) set m.2 in
      let id = member_of_kept has (numbers 0 (length cells)) m.0 (subst (λ xs. Member m.0 xs) ids m.1) in
      let row = member_at cells m.0 [] (range_below (length cells) m.0 id.0) in
      (contained_member (flat_map (combinations size) cells) set (member_flat (combinations size) cells (get_or cells m.0 []) set row k.0), eqb-true (first_corner set) v k.1)

  back : Contains (flat_map (combinations size) cells) set × (first_corner set ≡ v) → Contains (combinations_from size cells v (get_or lists v [])) set
  back p =
      let m = member_flattened (combinations size) cells set (member_contained (flat_map (combinations size) cells) set p.0) in
      let at = placed cells m.0 [] m.1 in
      let here : Member set (combinations size (get_or cells at.0 [])) = subst (λ row. Member set (combinations size row)) (sym at.2) m.2 in
      let in_row = begins size v (get_or cells at.0 []) set some (h.transposable.ascending at.0 [] at.1) here p.1 in
      let id : Member at.0 (get_or lists v []) = subst (λ xs. Member at.0 xs) (sym ids) (member_kept has (numbers 0 (length cells)) at.0 (below_range (length cells) at.0 at.1) in_row) in
      let kept = member_kept (begins_with v) (combinations size (get_or cells at.0 [])) set here (eq-eqb (first_corner set) v p.1) in
      contained_member (combinations_from size cells v (get_or lists v [])) set (member_flat f (get_or lists v []) at.0 set id kept)

-- the cells of a vertex are cells
pub cells_of : (cells lists : List (List ℕ)) (v : ℕ) → AreVertexCells cells lists → v < length lists → All (λ id. id < length cells) (get_or lists v [])
cells_of cells lists v h l k d m =
    let has = λ (id : ℕ). is_in (get_or cells id []) v in
    let ids = ap (λ xs. get_or xs v []) h.transposed_cells ∙ transposed_at cells (length lists) v l in
    let here = subst (λ xs. Member (get_or (get_or lists v []) k d) xs) ids (member_at (get_or lists v []) k d m) in
    range_below (length cells) (get_or (get_or lists v []) k d) (member_of_kept has (numbers 0 (length cells)) (get_or (get_or lists v []) k d) here).0

-- all first corners
pub table_all : (size : ℕ) (cells lists table : List (List ℕ)) (v : ℕ) → 0 < size → AreVertexCells cells lists → v ≡ length lists → IsTableBelow (flat_map (combinations size) cells) table v
    → IsTableOf (flat_map (combinations size) cells) table
table_all size cells lists table v some h e so = record { ordered = so.ordered; members = λ set. (λ c. ((so.members set).0 c).0, λ c. (so.members set).1 (c, below set c)) } where
  below : (set : List ℕ) → Contains (flat_map (combinations size) cells) set → first_corner set < v
  below set c =
      let m = member_flattened (combinations size) cells set (member_contained (flat_map (combinations size) cells) set c) in
      let at = placed cells m.0 [] m.1 in
      let here : Member set (combinations size (get_or cells at.0 [])) = subst (λ row. Member set (combinations size row)) (sym at.2) m.2 in
      let in_row = begins size (first_corner set) (get_or cells at.0 []) set some (h.transposable.ascending at.0 [] at.1) here refl in
      let where_in = placed (get_or cells at.0 []) (first_corner set) 0 (in_member (get_or cells at.0 []) (first_corner set) in_row) in
      let b = h.transposable.below at.0 [] at.1 where_in.0 0 where_in.1 in
      let f = where_in.2 in
      omega arith

-- for each vertex the rows that contain it
pub cells_of_each : (cells lists : List (List ℕ)) (count : ℕ) → CanTranspose cells count → lists ≡ transposed cells count → count < 2 ^ 32 → AreVertexCells cells lists
cells_of_each cells lists count can are few =
    let e : count ≡ length lists = sym (ap (λ xs. length xs) are ∙ transposed_length cells count) in
    record { transposable = subst (λ n. CanTranspose cells n) e can; transposed_cells = are ∙ ap (λ n. transposed cells n) e; few = subst (λ n. n < 2 ^ 32) e few }

-- the same for the rows of all cells
pub cells_of_vertices : (mesh : MeshLists) → IsSmallMesh mesh → (cells : List RawCell) (rows read lists : List (List ℕ)) (n : ℕ) → cells ≡ mesh.cells → AllZip AreSortedCorners cells rows → read ≡ rows
    → n ≡ count mesh Vertex → lists ≡ transposed read n → AreVertexCells rows lists
cells_of_vertices mesh small cells rows read lists n same all e m are =
    let near = row_vertices mesh small.is_mesh rows (subst (λ cs. AllZip AreSortedCorners cs rows) same all) in
    cells_of_each rows lists n (can_transpose mesh small Cell Vertex rows n near m) (are ∙ ap (λ r. transposed r n) e) (subst (λ k. k < 2 ^ 32) (sym m) (small.fits Vertex))

-- the corners of the next cell that are above a number
pub above_step : (rows : List (List ℕ)) (low : ℕ) (ids : List ℕ) (i : ℕ) (mid new : List ℕ) → i < length ids → mid ≡ members_above rows low (take i ids)
    → new ≡ mid ++ filter (is_above low) (get_or rows (get_or ids i 0) []) → new ≡ members_above rows low (take (i + 1) ids)
above_step rows low ids i mid new l so is =
    let f = λ (id : ℕ). filter (is_above low) (get_or rows id []) in
    is ∙ (ap (λ xs. xs ++ f (get_or ids i 0)) so ∙ (flat_map_more f [] (take i ids) (get_or ids i 0) ∙ ap (λ xs. members_above rows low xs) (sym (take_more ids i 0 l))))

-- the pairs of a corner with the larger ones are the combinations that begin with it
pub pairs_above : (cells lists : List (List ℕ)) (v : ℕ) (above : List ℕ) → AreVertexCells cells lists → v < length lists → IsSetOf (members_above cells v (get_or lists v [])) above
    → IsTableOf (combinations_from 2 cells v (get_or lists v [])) (map (pair v) above)
pairs_above cells lists v above h l is = record { ordered = ordered; members = λ set. (there set, back set) } where
  f : ℕ → List ℕ
  f id = filter (is_above v) (get_or cells id [])

  g : ℕ → List (List ℕ)
  g id = filter (begins_with v) (combinations 2 (get_or cells id []))

  has : ℕ → Bool
  has id = is_in (get_or cells id []) v

  ids : get_or lists v [] ≡ filter has (numbers 0 (length cells))
  ids = ap (λ xs. get_or xs v []) h.transposed_cells ∙ transposed_at cells (length lists) v l

  of_cell : (id : ℕ) → Member id (get_or lists v []) → (id < length cells) × (is_in (get_or cells id []) v ≡ true)
  of_cell id m =
      let k = member_of_kept has (numbers 0 (length cells)) id (subst (λ xs. Member id xs) ids m) in
      (range_below (length cells) id k.0, k.1)

  up : (id : ℕ) → id < length cells → IsAscending (get_or cells id [])
  up id m = pairs_of (λ x y. x < y) (get_or cells id []) (h.transposable.ascending id [] m)

  ordered : AllPairs Before (map (pair v) above)
  ordered = all_pairs Before (map (pair v) above) (pairs_map (λ x y. x < y) Before (pair v) above (λ x y r. before_more v (x ∷ []) (y ∷ []) (before_first x y [] [] r)) (pairs_of (λ x y. x < y) above is.ascending))

  inside : (v w : ℕ) (row : List ℕ) → Member v row → Member w row → (x : ℕ) → Member x (v ∷ w ∷ []) → Member x row
  inside v w row a b x (inl e) = subst (λ y. Member y row) e a
  inside v w row a b x (inr (inl e)) = subst (λ y. Member y row) e b
  inside v w row a b x (inr (inr none)) = absurd none

  there : (set : List ℕ) → Contains (map (pair v) above) set → Contains (combinations_from 2 cells v (get_or lists v [])) set
  there set c =
      let t = member_mapped (pair v) above set (member_contained (map (pair v) above) set c) in
      let w = t.0 in
      let m = member_flattened f (get_or lists v []) w (member_contained (members_above cells v (get_or lists v [])) w ((is.members w).0 (contained_member above w t.1))) in
      let k = member_of_kept (is_above v) (get_or cells m.0 []) w m.2 in
      let o = of_cell m.0 m.1 in
      let rise = ltb-true v w k.1 in
      let choice = is_combination 2 (get_or cells m.0 []) (v ∷ w ∷ []) (up m.0 o.0) (record { size_is = refl; ascending = (λ y n. elim n [ inl e ↦ subst (λ z. v < z) e rise | inr none ↦ absurd none ], (λ y none. absurd none, tt)); inside = inside v w (get_or cells m.0 []) (in_member (get_or cells m.0 []) v o.1) k.0 }) in
      let kept = member_kept (begins_with v) (combinations 2 (get_or cells m.0 [])) (v ∷ w ∷ []) choice (eq-eqb v v refl) in
      subst (λ s. Contains (combinations_from 2 cells v (get_or lists v [])) s) t.2 (contained_member (combinations_from 2 cells v (get_or lists v [])) (v ∷ w ∷ []) (member_flat g (get_or lists v []) m.0 (v ∷ w ∷ []) m.1 kept))

  back : (set : List ℕ) → Contains (combinations_from 2 cells v (get_or lists v [])) set → Contains (map (pair v) above) set
  back set c =
      let m = member_flattened g (get_or lists v []) set (member_contained (combinations_from 2 cells v (get_or lists v [])) set c) in
      let k = member_of_kept (begins_with v) (combinations 2 (get_or cells m.0 [])) set m.2 in
      let o = of_cell m.0 m.1 in
      let one = combination_is 2 (get_or cells m.0 []) set (up m.0 o.0) k.0 in
      go m.0 m.1 set one.size_is one.ascending one.inside (eqb-true (first_corner set) v k.1)
    where
      go : (id : ℕ) → Member id (get_or lists v []) → (set : List ℕ) → length set ≡ 2 → IsAscending set → ((x : ℕ) → Member x set → Member x (get_or cells id [])) → first_corner set ≡ v → Contains (map (pair v) above) set
      go id m [] l r i e = absurd (omega arith)
      go id m (x ∷ []) l r i e = absurd (omega arith)
      go id m (x ∷ y ∷ z ∷ set) l r i e = absurd (omega arith)
      go id m (x ∷ y ∷ []) l r i e =
          let rise : v < y = subst (λ n. n < y) e (r.0 y (inl refl)) in
          let kept = member_kept (is_above v) (get_or cells id []) y (i y (inr (inl refl))) (lt-ltb v y rise) in
          let flat = member_flat f (get_or lists v []) id y m kept in
          let here = member_contained above y ((is.members y).1 (contained_member (members_above cells v (get_or lists v [])) y flat)) in
          subst (λ n. Contains (map (pair v) above) (n ∷ y ∷ [])) (sym e) (contained_member (map (pair v) above) (v ∷ y ∷ []) (member_map (pair v) above y here))

-- the triples of a corner with these keys are the combinations that begin with it
key_less : (x y : ℕ) → x < y → (x / 2 ^ 32 < y / 2 ^ 32) ⊎ ((x / 2 ^ 32 ≡ y / 2 ^ 32) × (x % 2 ^ 32 < y % 2 ^ 32))
key_less x y l =
    let under_x : x % 2 ^ 32 < 2 ^ 32 = mod-lt x (omega arith) in
    let under_y : y % 2 ^ 32 < 2 ^ 32 = mod-lt y (omega arith) in
    let whole_x : 2 ^ 32 * (x / 2 ^ 32) + x % 2 ^ 32 ≡ x = div-add-mod x (2 ^ 32) in
    let whole_y : 2 ^ 32 * (y / 2 ^ 32) + y % 2 ^ 32 ≡ y = div-add-mod y (2 ^ 32) in
    elim (cases_eq (x / 2 ^ 32) (y / 2 ^ 32)) [
      | inl e ↦ inr (e, omega (arith, e, l, whole_x, whole_y))
      | inr ne ↦ inl (omega (arith, ne, l, whole_x, whole_y, under_x, under_y))
    ]

triple_before : (v x y : ℕ) → x < y → Before (triple v x) (triple v y)
triple_before v x y l = before_more v (x / 2 ^ 32 ∷ x % 2 ^ 32 ∷ []) (y / 2 ^ 32 ∷ y % 2 ^ 32 ∷ []) (elim (key_less x y l) [
  | inl r ↦ before_first (x / 2 ^ 32) (y / 2 ^ 32) (x % 2 ^ 32 ∷ []) (y % 2 ^ 32 ∷ []) r
  | inr p ↦ subst (λ n. Before (x / 2 ^ 32 ∷ x % 2 ^ 32 ∷ []) (n ∷ y % 2 ^ 32 ∷ [])) p.0
      (before_more (x / 2 ^ 32) (x % 2 ^ 32 ∷ []) (y % 2 ^ 32 ∷ []) (before_first (x % 2 ^ 32) (y % 2 ^ 32) [] [] p.1))
])

triple_of_key : (v b c : ℕ) → c < 2 ^ 32 → triple v (key (v ∷ b ∷ c ∷ [])) ≡ v ∷ b ∷ c ∷ []
triple_of_key v b c l =
    ap (λ n. v ∷ n ∷ (b * 2 ^ 32 + c) % 2 ^ 32 ∷ []) (div-mul-add b (2 ^ 32) c l) ∙ ap (λ n. v ∷ b ∷ n ∷ []) (mod-mul-add b (2 ^ 32) c l)

pub triples_of_keys : (cells lists : List (List ℕ)) (v : ℕ) (keys : List ℕ) → AreVertexCells cells lists → v < length lists → IsSetOf (keys_in cells v (get_or lists v [])) keys
    → IsTableOf (combinations_from 3 cells v (get_or lists v [])) (map (triple v) keys)
triples_of_keys cells lists v keys h l is = record { ordered = ordered; members = λ set. (there set, back set) } where
  g : ℕ → List (List ℕ)
  g id = filter (begins_with v) (combinations 3 (get_or cells id []))

  f : ℕ → List ℕ
  f id = map key (g id)

  has : ℕ → Bool
  has id = is_in (get_or cells id []) v

  ids : get_or lists v [] ≡ filter has (numbers 0 (length cells))
  ids = ap (λ xs. get_or xs v []) h.transposed_cells ∙ transposed_at cells (length lists) v l

  cell : (id : ℕ) → Member id (get_or lists v []) → id < length cells
  cell id m = range_below (length cells) id (member_of_kept has (numbers 0 (length cells)) id (subst (λ xs. Member id xs) ids m)).0

  -- a triple is the triple of its key
  restored : (id : ℕ) → Member id (get_or lists v []) → (set : List ℕ) → Member set (g id) → triple v (key set) ≡ set
  restored id m set s =
      let k = member_of_kept (begins_with v) (combinations 3 (get_or cells id [])) set s in
      let one = combination_is 3 (get_or cells id []) set (pairs_of (λ x y. x < y) (get_or cells id []) (h.transposable.ascending id [] (cell id m))) k.0 in
      go set one.size_is one.inside (eqb-true (first_corner set) v k.1)
    where
      small : (x : ℕ) → Member x (get_or cells id []) → x < 2 ^ 32
      small x inside =
          let at = placed (get_or cells id []) x 0 inside in
          let b = h.transposable.below id [] (cell id m) at.0 0 at.1 in
          let e = at.2 in
          let few = h.few in
          omega arith

      go : (set : List ℕ) → length set ≡ 3 → ((x : ℕ) → Member x set → Member x (get_or cells id [])) → first_corner set ≡ v → triple v (key set) ≡ set
      go [] n inside e = absurd (omega arith)
      go (a ∷ []) n inside e = absurd (omega arith)
      go (a ∷ b ∷ []) n inside e = absurd (omega arith)
      go (a ∷ b ∷ c ∷ d ∷ more) n inside e = absurd (omega arith)
      go (a ∷ b ∷ c ∷ []) n inside e = triple_of_key v b c (small c (inside c (inr (inr (inl refl))))) ∙ ap (λ x. x ∷ b ∷ c ∷ []) (sym e)

  ordered : AllPairs Before (map (triple v) keys)
  ordered = all_pairs Before (map (triple v) keys) (pairs_map (λ x y. x < y) Before (triple v) keys (triple_before v) (pairs_of (λ x y. x < y) keys is.ascending))

  there : (set : List ℕ) → Contains (map (triple v) keys) set → Contains (combinations_from 3 cells v (get_or lists v [])) set
  there set c =
      let t = member_mapped (triple v) keys set (member_contained (map (triple v) keys) set c) in
      let m = member_flattened f (get_or lists v []) t.0 (member_contained (keys_in cells v (get_or lists v [])) t.0 ((is.members t.0).0 (contained_member keys t.0 t.1))) in
      let s = member_mapped key (g m.0) t.0 m.2 in
      let same : s.0 ≡ set = sym (restored m.0 m.1 s.0 s.1) ∙ ap (triple v) s.2 ∙ t.2 in
      subst (λ s. Contains (combinations_from 3 cells v (get_or lists v [])) s) same
      (contained_member (combinations_from 3 cells v (get_or lists v [])) s.0 (member_flat g (get_or lists v []) m.0 s.0 m.1 s.1))

  back : (set : List ℕ) → Contains (combinations_from 3 cells v (get_or lists v [])) set → Contains (map (triple v) keys) set
  back set c =
      let m = member_flattened g (get_or lists v []) set (member_contained (combinations_from 3 cells v (get_or lists v [])) set c) in
      let n = member_flat f (get_or lists v []) m.0 (key set) m.1 (member_map key (g m.0) set m.2) in
      let k = member_contained keys (key set) ((is.members (key set)).1 (contained_member (keys_in cells v (get_or lists v [])) (key set) n)) in
      subst (λ s. Contains (map (triple v) keys) s) (restored m.0 m.1 set m.2)
      (contained_member (map (triple v) keys) (triple v (key set)) (member_map (triple v) keys (key set) k))
