-- The ids near an element, and the corners of elements.
use Rattle.std.proofs.Common.{◌≡◌, ℕ, zero, suc, ◌+◌, ◌-◌, ◌<◌, ◌≤◌, ◌||◌, Bool, true, false, List, [], ◌∷◌, map, length, get_or, filter}
use Rattle.std.proofs.Common.{flat_map, refl, sym, ap, subst, ◌∙◌, inl, inr, arith, ltb-true, cond, nat_lt}
use Rattle.std.specs.List.{range_with_len, AllZip}
use Rattle.std.specs.List.Sorted.{IsNonDecreasing, IsPermutation}
use Rattle.std.proofs.lemmas.Bool.{cases_order, false_from_ne_true}
use Rattle.std.proofs.lemmas.List.Concat.{flat_map_single}
use Rattle.std.proofs.lemmas.List.Sorted.{Contains-permutation, IsPermutation-sym, length_permutation}
use Rattle.std.proofs.lemmas.List.{get_or-map, length-map}
use Rattle.liszt_base.specs.Corners.{includes, are_different, IsCell, IsMesh}
use Rattle.liszt_base.specs.MeshLists.{MeshLists}
use Rattle.liszt_base.specs.declared.elements.Kind.{Kind}
use Rattle.liszt_base.specs.declared.mesh.Point.{Point}
use Rattle.liszt_base.specs.declared.elements.Kind.TheVariants.{Vertex, Cell}
use Rattle.mesh_topology.specs.Elements.{sets_of, numbers, corner_lists, elements, count, corners, one_includes_other, HasCorners}
use Rattle.mesh_topology.specs.Internal.Combinations.{combinations, AreRanks, AreSortedCorners, IsTableOf}
use Rattle.mesh_topology.proofs.MemberLemmas.{contained_member, member_contained, member_flat, member_flattened, any_found, any_by, all_at}
use Rattle.mesh_topology.proofs.MemberLemmas.{Member, included, includes_by, member_at, member_kept, member_of_kept, member_range, member_ranged, member_map, member_mapped, no_longer}
use Rattle.mesh_topology.proofs.OrderLemmas.{Pairs, bounds, rising_pairs, between_pairs, different, Before, not_before_itself}
use Rattle.mesh_topology.proofs.RankLemmas.{ordered, element_is, is_element, each_at}
use Rattle.mesh_topology.proofs.CombinationLemmas.{IsAscending, IsCombination, combination_is, is_combination, choices_ordered}
use Rattle.mesh_topology.proofs.ListLemmas.{same_list, not_both_before, same_table, zip_length, zip_at, no_cell}
use Rattle.mesh_topology.proofs.FaceEdgeLemmas.{placed}

-- NUMBERS BELOW A BOUND THAT PASS A TEST

-- a number is below n if and only if it is a member of `numbers 0 n`
pub below_range : (n x : ℕ) → x < n → Member x (numbers 0 n)
below_range n x l = member_range 0 (n - 0) x (omega arith) (omega arith)

pub range_below : (n x : ℕ) → Member x (numbers 0 n) → x < n
range_below n x m = let r = member_ranged 0 (n - 0) x m in omega arith

-- ranges are ascending
range_rises : (a n : ℕ) → IsAscending (range_with_len a n)
range_rises a zero = tt
range_rises a (suc n) = (λ y m. let r = member_ranged (a + 1) n y m in omega arith, range_rises (a + 1) n)

-- a filtered ascending list is ascending
pub kept_rises : (p : ℕ → Bool) (xs : List ℕ) → IsAscending xs → IsAscending (filter p xs)
kept_rises p [] r = tt
kept_rises p (x ∷ xs) r = go (p x) (kept_rises p xs r.1) where
  go : (b : Bool) → IsAscending (filter p xs) → IsAscending (cond b (x ∷ filter p xs) (filter p xs))
  go true k = (λ y m. r.0 y (member_of_kept p xs y m).0, k)
  go false k = k

-- the ascending list of the numbers below n that pass a test
pub record IsFilter (p : ℕ → Bool) (n : ℕ) (xs : List ℕ) : Type 0 where
  pub ascending : IsAscending xs
  pub inside : (x : ℕ) → Member x xs → (x < n) × (p x ≡ true)
  pub all : (x : ℕ) → x < n → p x ≡ true → Member x xs

-- the filtered range is that list
pub filter_is : (p : ℕ → Bool) (n : ℕ) → IsFilter p n (filter p (numbers 0 n))
filter_is p n = record {
  ascending = kept_rises p (numbers 0 n) (range_rises 0 (n - 0));
  inside = λ x m. (let k = member_of_kept p (numbers 0 n) x m in (range_below n x k.0, k.1));
  all = λ x l h. member_kept p (numbers 0 n) x (below_range n x l) h;
}

below_apart : (x y : ℕ) → x < y → y < x → ⊥
below_apart x y l m = omega arith

-- and no other list is that
pub is_filter : (p : ℕ → Bool) (n : ℕ) (xs : List ℕ) → IsFilter p n xs → xs ≡ filter p (numbers 0 n)
is_filter p n xs k =
    let f = filter_is p n in
    same_list (λ x y. x < y) below_apart xs (filter p (numbers 0 n)) k.ascending f.ascending
    (λ x m. let i = k.inside x m in f.all x i.0 i.1) (λ x m. let i = f.inside x m in k.all x i.0 i.1)

-- VERTICES

-- a vertex is its own corner
singles : (points : ℕ) → sets_of 1 0 points ≡ map (λ v. v ∷ []) (numbers 0 points)
singles points = flat_map_single (λ v. v ∷ []) (numbers 0 points)

long_range : (a n : ℕ) → length (range_with_len a n) ≡ n
long_range a zero = refl
long_range a (suc n) = ap suc (long_range (a + 1) n)

at_range : (a n k d : ℕ) → k < n → get_or (range_with_len a n) k d ≡ a + k
at_range a zero k d l = absurd (omega arith)
at_range a (suc n) zero d l = omega arith
at_range a (suc n) (suc k) d l = at_range (a + 1) n k d (omega arith) ∙ omega arith

pub long_numbers : (n : ℕ) → length (numbers 0 n) ≡ n
long_numbers n = long_range 0 (n - 0) ∙ omega arith

pub at_numbers : (n k d : ℕ) → k < n → get_or (numbers 0 n) k d ≡ k
at_numbers n k d l = at_range 0 (n - 0) k d (omega arith) ∙ omega arith

pub vertex_count : (mesh : MeshLists) → count mesh Vertex ≡ length mesh.points
vertex_count mesh = ap (λ xs. length xs) (singles (length mesh.points)) ∙ (length-map (numbers 0 (length mesh.points)) (λ v. v ∷ []) ∙ long_numbers (length mesh.points))

-- the number of vertices is that of points
pub vertices_are : (mesh : MeshLists) (points : List Point) → points ≡ mesh.points → length points ≡ count mesh Vertex
vertices_are mesh points e = ap (λ ps. length ps) e ∙ sym (vertex_count mesh)

pub vertex_is : (mesh : MeshLists) (v : ℕ) → v < length mesh.points → corners mesh Vertex v ≡ v ∷ []
vertex_is mesh v l =
    let n = numbers 0 (length mesh.points) in
    let in' : v < length n = rw (long_numbers (length mesh.points)) l in
    ap (λ xs. get_or xs v []) (singles (length mesh.points)) ∙ (get_or-map (λ w. w ∷ []) n v 0 [] in' ∙ ap (λ w. w ∷ []) (at_numbers (length mesh.points) v 0 l))

-- INCLUSION

-- fewer corners do not include more
pub not_more : (a b : List ℕ) → are_different b ≡ true → length a < length b → includes a b ≡ false
not_more a b d l = false_from_ne_true (includes a b) (λ i. let n = no_longer b a d (λ x m. included a b x i m) in omega arith)

-- for elements with different numbers of corners one test of inclusion is enough
pub more_left : (a b : List ℕ) → are_different a ≡ true → length b < length a → one_includes_other a b ≡ includes a b
more_left a b d l = rw (not_more b a d l) (go (includes a b)) where
  go : (t : Bool) → (t || false) ≡ t
  go true = refl
  go false = refl

pub more_right : (a b : List ℕ) → are_different b ≡ true → length a < length b → one_includes_other a b ≡ includes b a
more_right a b d l = rw (not_more a b d l) refl

-- ELEMENTS

-- an edge or a face with `size` corners
pub record IsCornerSet (points size : ℕ) (set : List ℕ) : Type 0 where
  pub size_is : length set ≡ size
  pub ascending : IsAscending set
  pub different : are_different set ≡ true
  pub below : (x : ℕ) → Member x set → x < points

pub corner_set_is : (mesh : MeshLists) (kind : Kind) (size : ℕ) → HasCorners kind size → (id : ℕ) → id < count mesh kind
    → IsCornerSet (length mesh.points) size (corners mesh kind id)
corner_set_is mesh kind size h id l =
    let e = element_is mesh kind size h (corners mesh kind id) (member_at (elements mesh kind) id [] l) in
    record {
      size_is = e.0;
      ascending = rising_pairs 0 (length mesh.points) (corners mesh kind id) e.1;
      different = different 0 (length mesh.points) (corners mesh kind id) e.1;
      below = λ x m. (bounds 0 (length mesh.points) (corners mesh kind id) x e.1 m).1;
    }

-- a cell's corners
pub cell_is : (mesh : MeshLists) → IsMesh (length mesh.points) (corner_lists mesh) → (cell : ℕ) → cell < count mesh Cell
    → IsCell (length mesh.points) (corners mesh Cell cell)
cell_is mesh is cell l = each_at (IsCell (length mesh.points)) (corner_lists mesh) (corners mesh Cell cell) is.each (member_at (corner_lists mesh) cell [] l)

-- the number of cells is that of lines
pub cell_count : (mesh : MeshLists) → count mesh Cell ≡ length mesh.cells
cell_count mesh = length-map mesh.cells (λ cell. cell.corners)

-- elements are in lexicographic order, so the earlier one of two has the smaller id
lower_id : (mesh : MeshLists) (kind : Kind) (size : ℕ) → HasCorners kind size → (x y : ℕ) → x < count mesh kind → y < count mesh kind
    → Before (corners mesh kind x) (corners mesh kind y) → x < y
lower_id mesh kind size h x y l k b = elim (cases_order x y) [
  | inl e ↦ absurd (not_before_itself (corners mesh kind y) (subst (λ v. Before (corners mesh kind v) (corners mesh kind y)) e b))
  | inr (inl m) ↦ m
  | inr (inr m) ↦ absurd (not_both_before (corners mesh kind x) (corners mesh kind y) b (ordered mesh kind size h y x [] m l))
]

-- no two elements have the same corners
one_id : (mesh : MeshLists) (kind : Kind) (size : ℕ) → HasCorners kind size → (x y : ℕ) → x < count mesh kind → y < count mesh kind
    → corners mesh kind x ≡ corners mesh kind y → x ≡ y
one_id mesh kind size h x y l k e = elim (cases_order x y) [
  | inl same ↦ same
  | inr (inl m) ↦ absurd (not_before_itself (corners mesh kind y) (subst (λ v. Before v (corners mesh kind y)) e (ordered mesh kind size h x y [] m k)))
  | inr (inr m) ↦ absurd (not_before_itself (corners mesh kind y) (subst (λ v. Before (corners mesh kind y) v) e (ordered mesh kind size h y x [] m l)))
]

-- order by the images of a function
pairs_back : {A B : Type 0} (R : A → A → Type 0) (S : B → B → Type 0) (f : A → B) (xs : List A)
    → ((x y : A) → Member x xs → Member y xs → S (f x) (f y) → R x y) → Pairs S (map f xs) → Pairs R xs
pairs_back R S f [] h p = tt
pairs_back R S f (x ∷ xs) h p = (
  λ y m. h x y (inl refl) (inr m) (p.0 (f y) (member_map f xs y m)),
  pairs_back R S f xs (λ z w m n. h z w (inr m) (inr n)) p.1,
)

-- the ids of all combinations of some corners are those of the elements that these corners include
pub ranks_kept : (mesh : MeshLists) (kind : Kind) (size : ℕ) → HasCorners kind size → (cs ids : List ℕ) → IsAscending cs
    → AreRanks (elements mesh kind) (combinations size cs) ids → (test : ℕ → Bool)
    → ((y : ℕ) → y < count mesh kind → test y ≡ includes cs (corners mesh kind y)) → ids ≡ filter test (numbers 0 (count mesh kind))
ranks_kept mesh kind size h cs ids r ranks test same = is_filter test (count mesh kind) ids (record { ascending = ascending; inside = inside; all = all }) where
  below : (y : ℕ) → Member y ids → y < count mesh kind
  below y m = ranks.below y (contained_member ids y m)

  ascending : IsAscending ids
  ascending =
      let p = subst (λ s. Pairs Before s) (sym ranks.sets_are) (choices_ordered size cs r) in
      pairs_back (λ x y. x < y) Before (λ y. corners mesh kind y) ids (λ x y m n. lower_id mesh kind size h x y (below x m) (below y n)) p

  inside : (y : ℕ) → Member y ids → (y < count mesh kind) × (test y ≡ true)
  inside y m =
      let here = subst (λ s. Member (corners mesh kind y) s) ranks.sets_are (member_map (λ y. corners mesh kind y) ids y m) in
      let c = combination_is size cs (corners mesh kind y) r here in
      (below y m, same y (below y m) ∙ includes_by cs (corners mesh kind y) c.inside)

  all : (y : ℕ) → y < count mesh kind → test y ≡ true → Member y ids
  all y l t =
      let e = corner_set_is mesh kind size h y l in
      let i : includes cs (corners mesh kind y) ≡ true = sym (same y l) ∙ t in
      let c = is_combination size cs (corners mesh kind y) r (record { size_is = e.size_is; ascending = e.ascending; inside = λ x m. included cs (corners mesh kind y) x i m }) in
      let m = member_mapped (λ y. corners mesh kind y) ids (corners mesh kind y) (subst (λ s. Member (corners mesh kind y) s) (sym ranks.sets_are) c) in
      subst (λ v. Member v ids) (one_id mesh kind size h m.0 y (below m.0 m.1) l m.2) m.1

-- the vertices of an element are its corners in ascending order
pub vertices_kept : (mesh : MeshLists) (cs row : List ℕ) → are_different cs ≡ true → 2 ≤ length cs → ((x : ℕ) → Member x cs → x < length mesh.points)
    → IsAscending row → ((x : ℕ) → Member x row → Member x cs) → ((x : ℕ) → Member x cs → Member x row) → (test : ℕ → Bool)
    → ((v : ℕ) → v < count mesh Vertex → test v ≡ one_includes_other cs (corners mesh Vertex v)) → row ≡ filter test (numbers 0 (count mesh Vertex))
vertices_kept mesh cs row d two below ascending out back test same = is_filter test (count mesh Vertex) row (record { ascending = ascending; inside = inside; all = all }) where
  test_is : (v : ℕ) → v < count mesh Vertex → test v ≡ includes cs (v ∷ [])
  test_is v l =
      let v_is = vertex_is mesh v (subst (λ n. v < n) (vertex_count mesh) l) in
      same v l ∙ (ap (λ s. one_includes_other cs s) v_is ∙ more_left cs (v ∷ []) d (omega arith))

  inside : (v : ℕ) → Member v row → (v < count mesh Vertex) × (test v ≡ true)
  inside v m =
      let l : v < count mesh Vertex = subst (λ n. v < n) (sym (vertex_count mesh)) (below v (out v m)) in
      (l, test_is v l ∙ includes_by cs (v ∷ []) (λ x n. one x n (out v m)))
    where
      one : (x : ℕ) → Member x (v ∷ []) → Member v cs → Member x cs
      one x (inl e) n = subst (λ w. Member w cs) e n
      one x (inr k) n = absurd k

  all : (v : ℕ) → v < count mesh Vertex → test v ≡ true → Member v row
  all v l t = back v (included cs (v ∷ []) v (sym (test_is v l) ∙ t) (inl refl))

-- ROWS: THE CORNERS OF CELLS IN ASCENDING ORDER

-- the same corners in ascending order
pub record HasRow (cs row : List ℕ) : Type 0 where
  pub ascending : IsAscending row
  pub out : (x : ℕ) → Member x row → Member x cs
  pub back : (x : ℕ) → Member x cs → Member x row

rising_four : (cs : List ℕ) (a b c d : ℕ) → are_different cs ≡ true → length cs ≡ 4 → ((x : ℕ) → Member x cs → Member x (a ∷ b ∷ c ∷ d ∷ []))
    → a ≤ b → b ≤ c → c ≤ d → IsAscending (a ∷ b ∷ c ∷ d ∷ [])
rising_four cs a b c d dc four inside ab bc cd =
    let one : a < b = omega (arith, first) in
    let two : b < c = omega (arith, second) in
    let three : c < d = omega (arith, third) in
    (λ y m. grind arith, (λ y m. grind arith, (λ y m. grind arith, (λ y m. absurd m, tt))))
  where
    few : (y z w : ℕ) → ((x : ℕ) → Member x (a ∷ b ∷ c ∷ d ∷ []) → Member x (y ∷ z ∷ w ∷ [])) → ⊥
    few y z w k = let n = no_longer cs (y ∷ z ∷ w ∷ []) dc (λ x m. k x (inside x m)) in omega arith

    first : a ≡ b → ⊥
    first e = few b c d again where
      again : (x : ℕ) → Member x (a ∷ b ∷ c ∷ d ∷ []) → Member x (b ∷ c ∷ d ∷ [])
      again x m = grind (arith, e)

    second : b ≡ c → ⊥
    second e = few a c d again where
      again : (x : ℕ) → Member x (a ∷ b ∷ c ∷ d ∷ []) → Member x (a ∷ c ∷ d ∷ [])
      again x m = grind (arith, e)

    third : c ≡ d → ⊥
    third e = few a b d again where
      again : (x : ℕ) → Member x (a ∷ b ∷ c ∷ d ∷ []) → Member x (a ∷ b ∷ d ∷ [])
      again x m = grind (arith, e)

rising_row : (cs row : List ℕ) → are_different cs ≡ true → length cs ≡ 4 → length row ≡ 4 → IsNonDecreasing row → ((x : ℕ) → Member x cs → Member x row) → IsAscending row
rising_row cs (a ∷ b ∷ c ∷ d ∷ []) dc four l up inside =
    rising_four cs a b c d dc four inside (up 0 1 0 (omega arith) (omega arith)) (up 1 2 0 (omega arith) (omega arith)) (up 2 3 0 (omega arith) (omega arith))
rising_row cs [] dc four l up inside = absurd (omega arith)
rising_row cs (a ∷ []) dc four l up inside = absurd (omega arith)
rising_row cs (a ∷ b ∷ []) dc four l up inside = absurd (omega arith)
rising_row cs (a ∷ b ∷ c ∷ []) dc four l up inside = absurd (omega arith)
rising_row cs (a ∷ b ∷ c ∷ d ∷ e ∷ xs) dc four l up inside = absurd (omega arith)

row_is : (points : ℕ) (cs row : List ℕ) → IsCell points cs → IsNonDecreasing row → IsPermutation cs row → HasRow cs row
row_is points cs row cell up moved =
    let back = λ (x : ℕ) (m : Member x cs). member_contained row x (Contains-permutation cs row x moved (contained_member cs x m)) in
    let out = λ (x : ℕ) (m : Member x row). member_contained cs x (Contains-permutation row cs x (IsPermutation-sym cs row moved) (contained_member row x m)) in
    let l : length row ≡ 4 = length_permutation cs row moved ∙ cell.0 in
    record { ascending = rising_row cs row cell.1 cell.0 l up back; out = out; back = back }

-- rows of all cells
pub record AreRows (mesh : MeshLists) (rows : List (List ℕ)) : Type 0 where
  pub length_is : length rows ≡ count mesh Cell
  pub row : (cell : ℕ) → cell < count mesh Cell → HasRow (corners mesh Cell cell) (get_or rows cell [])

pub are_rows : (mesh : MeshLists) → IsMesh (length mesh.points) (corner_lists mesh) → (rows : List (List ℕ)) → AllZip AreSortedCorners mesh.cells rows → AreRows mesh rows
are_rows mesh is rows all = record { length_is = sym (zip_length AreSortedCorners mesh.cells rows all) ∙ sym (cell_count mesh); row = row } where
  row : (cell : ℕ) → cell < count mesh Cell → HasRow (corners mesh Cell cell) (get_or rows cell [])
  row cell l =
      let k : cell < length mesh.cells = subst (λ n. cell < n) (cell_count mesh) l in
      let z = zip_at AreSortedCorners mesh.cells rows cell no_cell [] all k in
      let e : corners mesh Cell cell ≡ (get_or mesh.cells cell no_cell).corners = get_or-map (λ cell. cell.corners) mesh.cells cell no_cell [] k in
      row_is (length mesh.points) (corners mesh Cell cell) (get_or rows cell []) (cell_is mesh is cell l) z.ascending (subst (λ cs. IsPermutation cs (get_or rows cell [])) (sym e) z.permutes)

-- an ascending list of corners of a cell is an element
pub in_cell : (mesh : MeshLists) → IsMesh (length mesh.points) (corner_lists mesh) → (cell : ℕ) → cell < count mesh Cell → (kind : Kind) (size : ℕ) → HasCorners kind size
    → (cs set : List ℕ) → IsCombination size cs set → ((x : ℕ) → Member x cs → Member x (corners mesh Cell cell)) → Member set (elements mesh kind)
in_cell mesh is cell l kind size h cs set c out =
    let all = corners mesh Cell cell in
    let inside = λ (x : ℕ) (n : Member x set). out x (c.inside x n) in
    let below = λ (x : ℕ) (n : Member x set). ltb-true x (length mesh.points) (all_at (λ v. nat_lt v (length mesh.points)) all x (cell_is mesh is cell l).2 (inside x n)) in
    let between = between_pairs 0 (length mesh.points) set c.ascending (λ x n. (omega arith, below x n)) in
    let in_a_cell = any_by (λ corners. includes corners set) (corner_lists mesh) all (member_at (corner_lists mesh) cell [] l) (includes_by all set inside) in
    is_element mesh kind size h set c.size_is between in_a_cell

-- each element is a combination of a row
pub table_members : (mesh : MeshLists) → IsMesh (length mesh.points) (corner_lists mesh) → (rows : List (List ℕ)) → AreRows mesh rows → (kind : Kind) (size : ℕ)
    → HasCorners kind size → (set : List ℕ) → Member set (elements mesh kind) → Member set (flat_map (combinations size) rows)
table_members mesh is rows are kind size h set m =
    let e = element_is mesh kind size h set m in
    let f = any_found (λ corners. includes corners set) (corner_lists mesh) e.2 in
    let p = placed (corner_lists mesh) f.0 [] f.1 in
    let r = are.row p.0 p.1 in
    let i : includes (corners mesh Cell p.0) set ≡ true = subst (λ cs. includes cs set ≡ true) (sym p.2) f.2 in
    let c = is_combination size (get_or rows p.0 []) set r.ascending (record { size_is = e.0; ascending = rising_pairs 0 (length mesh.points) set e.1; inside = λ x n. r.back x (included (corners mesh Cell p.0) set x i n) }) in
    member_flat (combinations size) rows (get_or rows p.0 []) set (member_at rows p.0 [] (omega (arith, are.length_is, p.1))) c

-- the table of the combinations of all rows is that of the elements
pub table_is : (mesh : MeshLists) → IsMesh (length mesh.points) (corner_lists mesh) → (rows : List (List ℕ)) → AreRows mesh rows → (kind : Kind) (size : ℕ)
    → HasCorners kind size → (table : List (List ℕ)) → IsTableOf (flat_map (combinations size) rows) table → table ≡ elements mesh kind
table_is mesh is rows are kind size h table t =
    same_table (flat_map (combinations size) rows) table (elements mesh kind) t (ordered mesh kind size h) (table_members mesh is rows are kind size h) back
  where
    back : (set : List ℕ) → Member set (flat_map (combinations size) rows) → Member set (elements mesh kind)
    back set m =
        let f = member_flattened (combinations size) rows set m in
        let p = placed rows f.0 [] f.1 in
        let l : p.0 < count mesh Cell = omega (arith, are.length_is, p.1) in
        let r = are.row p.0 l in
        let c = combination_is size (get_or rows p.0 []) set r.ascending (subst (λ row. Member set (combinations size row)) (sym p.2) f.2) in
        in_cell mesh is p.0 l kind size h (get_or rows p.0 []) set c r.out
