-- The edges and the faces of a mesh as ordered sets, and their ids.
use Rattle.std.proofs.Common.{◌≡◌, ◌↔◌, ℕ, ◌<◌, nat_lt, Bool, true, false, Some, List, [], ◌∷◌, length, get_or, AllPairs, Contains, filter}
use Rattle.std.proofs.Common.{position, nat_cmp, Less, refl, sym, ap, subst, inl, inr, arith, lt-ltb, ltb-true}
use Rattle.std.specs.Cmp.Lexicographic.{slice_cmp}
use Rattle.std.specs.List.{list_any, position_or_len, AllByRecursion}
use Rattle.std.proofs.lemmas.Bool.{and_parts, false_from_ne_true}
use Rattle.std.proofs.lemmas.List.Kept.{AllPairs-filter}
use Rattle.std.proofs.lemmas.List.Sums.{position_or_len_is}
use Rattle.liszt_base.specs.Corners.{includes, same_members, IsCell, IsMesh}
use Rattle.liszt_base.specs.MeshLists.{MeshLists}
use Rattle.liszt_base.specs.declared.elements.Kind.{Kind}
use Rattle.liszt_base.specs.declared.elements.Kind.TheVariants.{Vertex, Edge, Face, Cell}
use Rattle.mesh_topology.specs.Elements.{sets_of, corner_lists, is_in_a_cell, elements, count, corners, id_of_corners, IsSetOfCorners}
use Rattle.mesh_topology.specs.Elements.{HasCorners}
use Rattle.mesh_topology.proofs.MemberLemmas.{Member, any_found, all_at, included, member_at, member_contained, contained_member, member_kept}
use Rattle.mesh_topology.proofs.MemberLemmas.{member_of_kept}
use Rattle.mesh_topology.proofs.OrderLemmas.{all_pairs, Between, increasing, between, same_rising, sets_are, are_sets, Before, not_before_itself}
use Rattle.mesh_topology.proofs.OrderLemmas.{sets_ordered}

-- the edges are the pairs in a cell, and the faces the triples
ranked : (mesh : MeshLists) (kind : Kind) (size : ℕ) → HasCorners kind size
    → elements mesh kind ≡ filter (is_in_a_cell mesh) (sets_of size 0 (length mesh.points))
ranked mesh Vertex size r = absurd r
ranked mesh Edge size r = ap (λ s. filter (is_in_a_cell mesh) (sets_of s 0 (length mesh.points))) (sym r)
ranked mesh Face size r = ap (λ s. filter (is_in_a_cell mesh) (sets_of s 0 (length mesh.points))) (sym r)
ranked mesh Cell size r = absurd r

-- they are in lexicographic order
pub ordered : (mesh : MeshLists) (kind : Kind) (size : ℕ) → HasCorners kind size
    → AllPairs (λ x y. slice_cmp nat_cmp x y ≡ Less) (elements mesh kind)
ordered mesh kind size r =
    let all = sets_of size 0 (length mesh.points) in
    let p = AllPairs-filter Before (is_in_a_cell mesh) all (all_pairs Before all (sets_ordered size 0 (length mesh.points))) in
    subst (λ xs. AllPairs Before xs) (sym (ranked mesh kind size r)) p

-- an edge or a face is an ascending list of vertices that some cell includes
pub element_is : (mesh : MeshLists) (kind : Kind) (size : ℕ) → HasCorners kind size → (set : List ℕ) → Member set (elements mesh kind)
    → (length set ≡ size) × Between 0 (length mesh.points) set × (is_in_a_cell mesh set ≡ true)
element_is mesh kind size r set m =
    let all = sets_of size 0 (length mesh.points) in
    let k = member_of_kept (is_in_a_cell mesh) all set (subst (λ xs. Member set xs) (ranked mesh kind size r) m) in
    let s = sets_are size 0 (length mesh.points) set k.0 in
    (s.0, s.1, k.1)

-- and each such list is an edge or a face
pub is_element : (mesh : MeshLists) (kind : Kind) (size : ℕ) → HasCorners kind size → (set : List ℕ) → length set ≡ size
    → Between 0 (length mesh.points) set → is_in_a_cell mesh set ≡ true → Member set (elements mesh kind)
is_element mesh kind size r set l b i =
    let all = sets_of size 0 (length mesh.points) in
    let k = member_kept (is_in_a_cell mesh) all set (are_sets size 0 (length mesh.points) set l b) i in
    subst (λ xs. Member set xs) (sym (ranked mesh kind size r)) k

-- a fact of all members holds of each member
pub each_at : {A : Type 0} (P : A → Type 0) (xs : List A) (x : A) → AllByRecursion P xs → Member x xs → P x
each_at P [] x a m = absurd m
each_at P (y ∷ ys) x a (inl e) = subst P e a.0
each_at P (y ∷ ys) x a (inr m) = each_at P ys x a.1 m

-- the corners that a cell includes are vertices
vertices : (points : ℕ) (cells : List (List ℕ)) (set : List ℕ) → AllByRecursion (IsCell points) cells
    → list_any (λ corners. includes corners set) cells ≡ true → (x : ℕ) → Member x set → x < points
vertices points cells set each i x m =
    let f = any_found (λ corners. includes corners set) cells i in
    let c = each_at (IsCell points) cells f.0 each f.1 in
    ltb-true x points (all_at (λ v. nat_lt v points) f.0 x c.2 (included f.0 set x f.2 m))

-- the edges and the faces of a mesh are the sets of two and of three corners of its cells
pub members : (mesh : MeshLists) (kind : Kind) (size : ℕ) → HasCorners kind size → IsMesh (length mesh.points) (corner_lists mesh)
    → (set : List ℕ) → Contains (elements mesh kind) set ↔ IsSetOfCorners (corner_lists mesh) size set
members mesh kind size r is set = (there, back) where
  there : Contains (elements mesh kind) set → IsSetOfCorners (corner_lists mesh) size set
  there c =
      let e = element_is mesh kind size r set (member_contained (elements mesh kind) set c) in
      record { size_is = e.0; ascending = increasing 0 (length mesh.points) set e.1; in_a_cell = e.2 }

  back : IsSetOfCorners (corner_lists mesh) size set → Contains (elements mesh kind) set
  back s =
      let b = between (length mesh.points) set s.ascending (vertices (length mesh.points) (corner_lists mesh) set is.each s.in_a_cell) in
      contained_member (elements mesh kind) set (is_element mesh kind size r set s.size_is b s.in_a_cell)

-- `position` gives the first index that passes
position_is : {A : Type 0} (p : A → Bool) (xs : List A) (d : A) (i : ℕ) → i < length xs
    → ((k : ℕ) → k < i → p (get_or xs k d) ≡ false) → p (get_or xs i d) ≡ true → position p xs ≡ Some i
position_is p xs d i l none one =
    let e : position_or_len p xs ≡ i = position_or_len_is p xs i d (omega arith) none (λ _. one) in
    let t = lt-ltb i (length xs) l in
    rw e (rw t refl)

-- the id of an edge or a face by its corners
pub id_of_corners_is : (mesh : MeshLists) (kind : Kind) (size : ℕ) → HasCorners kind size → (id : ℕ) (set : List ℕ) → id < count mesh kind
    → same_members set (corners mesh kind id) ≡ true → id_of_corners mesh kind set ≡ Some id
id_of_corners_is mesh kind size r id set l same =
    let none = λ (k : ℕ) (m : k < id). false_from_ne_true (same_members set (corners mesh kind k)) (earlier k m) in
    position_is (same_members set) (elements mesh kind) [] id l none same
  where
    between_at : (k : ℕ) → k < count mesh kind → Between 0 (length mesh.points) (corners mesh kind k)
    between_at k m = (element_is mesh kind size r (corners mesh kind k) (member_at (elements mesh kind) k [] m)).1

    through : (xs ys : List ℕ) → same_members set xs ≡ true → same_members set ys ≡ true → (z : ℕ) → Member z xs → Member z ys
    through xs ys a b z m =
        let one = included set xs z (and_parts (includes set xs) (includes xs set) a).0 m in
        included ys set z (and_parts (includes set ys) (includes ys set) b).1 one

    earlier : (k : ℕ) → k < id → same_members set (corners mesh kind k) ≡ true → ⊥
    earlier k m e =
        let one = corners mesh kind k in
        let two = corners mesh kind id in
        let b = between_at k (omega arith) in
        let equal = same_rising 0 (length mesh.points) one two b (between_at id l) (through one two e same) (through two one same e) in
        not_before_itself two (subst (λ z. Before z two) equal (ordered mesh kind size r k id [] m l))
