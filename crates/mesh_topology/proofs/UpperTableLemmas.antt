-- The upper tables are those of the definitions.
use Rattle.std.proofs.Common.{◌≡◌, ℕ, ◌<◌, ◌^◌, ◌==◌, ◌&&◌, ◌||◌, not, Bool, true, false, List, [], length, get_or, filter, AllPairs, refl, sym, ap, subst, ◌∙◌, eqb-true, eq-eqb}
use Rattle.std.specs.List.{All, list_any}
use Rattle.std.proofs.lemmas.Bool.{and_parts, and_from, false_from_ne_true, not-true, not_from_false, both_ways}
use Rattle.std.proofs.lemmas.List.{get_or_default}
use Rattle.liszt_base.specs.Corners.{is_in, includes}
use Rattle.liszt_base.specs.MeshLists.{MeshLists}
use Rattle.liszt_base.specs.declared.elements.Kind.{Kind}
use Rattle.liszt_base.specs.declared.elements.Kind.TheVariants.{Vertex, Edge, Face, Cell}
use Rattle.mesh_topology.specs.Elements.{numbers, elements, count, corners, one_includes_other, are_adjacent, is_incident, near}
use Rattle.mesh_topology.specs.Internal.Incidence.{transposed, differs_from, other_members, AreNeighbourSets, AreListsBelow, CanTranspose, IsSetOf}
use Rattle.mesh_topology.specs.Internal.Tables.{near_lists, IsSmallMesh}
use Rattle.mesh_topology.proofs.MemberLemmas.{Member, in_member, member_in, any_found, any_by, member_at, member_contained, contained_member, member_flat, member_flattened, member_kept, member_of_kept}
use Rattle.mesh_topology.proofs.OrderLemmas.{all_pairs, pairs_of}
use Rattle.mesh_topology.proofs.FaceEdgeLemmas.{placed}
use Rattle.mesh_topology.proofs.NearLemmas.{IsFilter, filter_is, is_filter}
use Rattle.mesh_topology.proofs.TransposeLemmas.{transposed_length, transposed_at}
use Rattle.mesh_topology.proofs.LowerTableLemmas.{near_lists_length, near_lists_at, near_lists_are}

-- mutual inclusion is symmetric
pub includes_symmetric : (a b : List ℕ) → one_includes_other a b ≡ one_includes_other b a
includes_symmetric a b = go (includes a b) (includes b a) where
  go : (x y : Bool) → (x || y) ≡ (y || x)
  go true true = refl
  go true false = refl
  go false true = refl
  go false false = refl

-- the rows of a table are ascending lists of ids
pub rows_rise : (mesh : MeshLists) (kind out : Kind) (rows : List (List ℕ)) → rows ≡ near_lists mesh kind out → All (AllPairs (λ x y. x < y)) rows
rows_rise mesh kind out rows e = subst (λ t. All (AllPairs (λ x y. x < y)) t) (sym e) rise where
  rise : All (AllPairs (λ x y. x < y)) (near_lists mesh kind out)
  rise id d l =
      let k : id < count mesh kind = subst (λ n. id < n) (near_lists_length mesh kind out) l in
      let same : get_or (near_lists mesh kind out) id d ≡ near mesh kind id out = get_or_default (near_lists mesh kind out) id d [] l ∙ near_lists_at mesh kind out id k in
      subst (λ row. AllPairs (λ x y. x < y) row) (sym same) (all_pairs (λ x y. x < y) (near mesh kind id out) (filter_is (is_incident mesh kind id out) (count mesh out)).ascending)

pub rows_below : (mesh : MeshLists) (kind out : Kind) (rows : List (List ℕ)) (n : ℕ) → rows ≡ near_lists mesh kind out → n ≡ count mesh out → All (All (λ y. y < n)) rows
rows_below mesh kind out rows n e f = subst (λ t. All (All (λ y. y < n)) t) (sym e) below where
  low : (id : ℕ) (row : List ℕ) → row ≡ near mesh kind id out → All (λ y. y < n) row
  low id row same i z m =
      let here = subst (λ r. Member (get_or row i z) r) same (member_at row i z m) in
      subst (λ c. get_or row i z < c) (sym f) ((filter_is (is_incident mesh kind id out) (count mesh out)).inside (get_or row i z) here).0

  below : All (All (λ y. y < n)) (near_lists mesh kind out)
  below id d l =
      let k : id < count mesh kind = subst (λ n. id < n) (near_lists_length mesh kind out) l in
      low id (get_or (near_lists mesh kind out) id d) (get_or_default (near_lists mesh kind out) id d [] l ∙ near_lists_at mesh kind out id k)

-- the transposition of a table
pub transposed_near : (mesh : MeshLists) (kind out : Kind) → ((x y : ℕ) → is_incident mesh kind x out y ≡ is_incident mesh out y kind x) → (rows : List (List ℕ)) (n : ℕ)
    → rows ≡ near_lists mesh kind out → n ≡ count mesh out → transposed rows n ≡ near_lists mesh out kind
transposed_near mesh kind out same rows n e f = near_lists_are mesh out kind (transposed rows n) (transposed_length rows n ∙ f) at where
  length_is : length rows ≡ count mesh kind
  length_is = ap (λ t. length t) e ∙ near_lists_length mesh kind out

  row_at : (x : ℕ) → x < count mesh kind → get_or rows x [] ≡ near mesh kind x out
  row_at x l = ap (λ t. get_or t x []) e ∙ near_lists_at mesh kind out x l

  at : (y : ℕ) → y < count mesh out → get_or (transposed rows n) y [] ≡ near mesh out y kind
  at y l = transposed_at rows n y (subst (λ m. y < m) (sym f) l) ∙ is_filter (is_incident mesh out y kind) (count mesh kind) (filter (λ x. is_in (get_or rows x []) y) (numbers 0 (length rows))) one where
    k : IsFilter (λ x. is_in (get_or rows x []) y) (length rows) (filter (λ x. is_in (get_or rows x []) y) (numbers 0 (length rows)))
    k = filter_is (λ x. is_in (get_or rows x []) y) (length rows)

    inside : (x : ℕ) → Member x (filter (λ x. is_in (get_or rows x []) y) (numbers 0 (length rows))) → (x < count mesh kind) × (is_incident mesh out y kind x ≡ true)
    inside x m =
        let i = k.inside x m in
        let b : x < count mesh kind = subst (λ c. x < c) length_is i.0 in
        let here = subst (λ row. Member y row) (row_at x b) (in_member (get_or rows x []) y i.1) in
        (b, sym (same x y) ∙ ((filter_is (is_incident mesh kind x out) (count mesh out)).inside y here).1)

    all : (x : ℕ) → x < count mesh kind → is_incident mesh out y kind x ≡ true → Member x (filter (λ x. is_in (get_or rows x []) y) (numbers 0 (length rows)))
    all x b t =
        let here = (filter_is (is_incident mesh kind x out) (count mesh out)).all y l (same x y ∙ t) in
        k.all x (subst (λ c. x < c) (sym length_is) b) (member_in (get_or rows x []) y (subst (λ row. Member y row) (sym (row_at x b)) here))

    one : IsFilter (is_incident mesh out y kind) (count mesh kind) (filter (λ x. is_in (get_or rows x []) y) (numbers 0 (length rows)))
    one = record { ascending = k.ascending; inside = inside; all = all }

-- other ids
pub other_is : (x y : ℕ) → differs_from x y ≡ true → (x ≡ y → ⊥)
other_is x y h e = both_ways (y == x) (not-true (y == x) h) (eq-eqb y x (sym e))

pub differs_from_by : (x y : ℕ) → (x ≡ y → ⊥) → differs_from x y ≡ true
differs_from_by x y ne = not_from_false (y == x) (false_from_ne_true (y == x) (λ h. ne (sym (eqb-true y x h))))

not_same : (x y : ℕ) → (x ≡ y → ⊥) → not (x == y) ≡ true
not_same x y ne = not_from_false (x == y) (false_from_ne_true (x == y) (λ h. ne (eqb-true x y h)))

same_not : (x y : ℕ) → not (x == y) ≡ true → (x ≡ y → ⊥)
same_not x y h e = both_ways (x == y) (not-true (x == y) h) (eq-eqb x y e)

-- the neighbours of an element by the elements that are incident with both
pub neighbours_are : (mesh : MeshLists) (kind by : Kind) → ((x f : ℕ) → is_incident mesh kind x by f ≡ one_includes_other (corners mesh kind x) (corners mesh by f))
    → ((f y : ℕ) → is_incident mesh by f kind y ≡ one_includes_other (corners mesh by f) (corners mesh kind y)) → ((x y : ℕ) → is_incident mesh kind x kind y ≡ are_adjacent mesh kind by x y)
    → (through back all : List (List ℕ)) (n : ℕ) → through ≡ near_lists mesh kind by → back ≡ near_lists mesh by kind → n ≡ length through → AreNeighbourSets through back n all → all ≡ near_lists mesh kind kind
neighbours_are mesh kind by up down test through back all n e f g are = near_lists_are mesh kind kind all (are.length_is ∙ length_is) at where
  length_is : n ≡ count mesh kind
  length_is = g ∙ (ap (λ t. length t) e ∙ near_lists_length mesh kind by)

  through_at : (x : ℕ) → x < count mesh kind → get_or through x [] ≡ near mesh kind x by
  through_at x l = ap (λ t. get_or t x []) e ∙ near_lists_at mesh kind by x l

  back_at : (b : ℕ) → b < count mesh by → get_or back b [] ≡ near mesh by b kind
  back_at b l = ap (λ t. get_or t b []) f ∙ near_lists_at mesh by kind b l

  at : (x : ℕ) → x < count mesh kind → get_or all x [] ≡ near mesh kind x kind
  at x l = is_filter (is_incident mesh kind x kind) (count mesh kind) (get_or all x []) (record { ascending = pairs_of (λ x y. x < y) (get_or all x []) s.ascending; inside = inside; all = others }) where
    s : IsSetOf (other_members x back (get_or through x [])) (get_or all x [])
    s = are.at x (subst (λ c. x < c) (sym length_is) l)

    inside : (y : ℕ) → Member y (get_or all x []) → (y < count mesh kind) × (is_incident mesh kind x kind y ≡ true)
    inside y m =
        let flat = member_contained (other_members x back (get_or through x [])) y ((s.members y).0 (contained_member (get_or all x []) y m)) in
        let p = member_flattened (λ by. filter (differs_from x) (get_or back by [])) (get_or through x []) y flat in
        let b = p.0 in
        let first = (filter_is (is_incident mesh kind x by) (count mesh by)).inside b (subst (λ row. Member b row) (through_at x l) p.1) in
        let q = member_of_kept (differs_from x) (get_or back b []) y p.2 in
        let second = (filter_is (is_incident mesh by b kind) (count mesh kind)).inside y (subst (λ row. Member y row) (back_at b first.0) q.0) in
        let one : one_includes_other (corners mesh by b) (corners mesh kind x) ≡ true = includes_symmetric (corners mesh by b) (corners mesh kind x) ∙ (sym (up x b) ∙ first.1) in
        let two : one_includes_other (corners mesh by b) (corners mesh kind y) ≡ true = sym (down b y) ∙ second.1 in
        let both = and_from (one_includes_other (corners mesh by b) (corners mesh kind x)) (one_includes_other (corners mesh by b) (corners mesh kind y)) one two in
        let any = any_by (λ set. one_includes_other set (corners mesh kind x) && one_includes_other set (corners mesh kind y)) (elements mesh by) (corners mesh by b) (member_at (elements mesh by) b [] first.0) both in
        (second.0, test x y ∙ and_from (not (x == y)) (list_any (λ set. one_includes_other set (corners mesh kind x) && one_includes_other set (corners mesh kind y)) (elements mesh by)) (not_same x y (other_is x y q.1)) any)

    others : (y : ℕ) → y < count mesh kind → is_incident mesh kind x kind y ≡ true → Member y (get_or all x [])
    others y k t =
        let parts = and_parts (not (x == y)) (list_any (λ set. one_includes_other set (corners mesh kind x) && one_includes_other set (corners mesh kind y)) (elements mesh by)) (sym (test x y) ∙ t) in
        let any = any_found (λ set. one_includes_other set (corners mesh kind x) && one_includes_other set (corners mesh kind y)) (elements mesh by) parts.1 in
        let p = placed (elements mesh by) any.0 [] any.1 in
        let b = p.0 in
        let both = and_parts (one_includes_other any.0 (corners mesh kind x)) (one_includes_other any.0 (corners mesh kind y)) any.2 in
        let one : is_incident mesh kind x by b ≡ true = up x b ∙ (includes_symmetric (corners mesh kind x) (corners mesh by b) ∙ (ap (λ set. one_includes_other set (corners mesh kind x)) p.2 ∙ both.0)) in
        let two : is_incident mesh by b kind y ≡ true = down b y ∙ (ap (λ set. one_includes_other set (corners mesh kind y)) p.2 ∙ both.1) in
        let first = subst (λ row. Member b row) (sym (through_at x l)) ((filter_is (is_incident mesh kind x by) (count mesh by)).all b p.1 one) in
        let second = subst (λ row. Member y row) (sym (back_at b p.1)) ((filter_is (is_incident mesh by b kind) (count mesh kind)).all y k two) in
        let kept = member_kept (differs_from x) (get_or back b []) y second (differs_from_by x y (same_not x y parts.0)) in
        let flat = member_flat (λ by. filter (differs_from x) (get_or back by [])) (get_or through x []) b y first kept in
        member_contained (get_or all x []) y ((s.members y).1 (contained_member (other_members x back (get_or through x [])) y flat))

-- THE CALLS that build the tables

pub can_transpose : (mesh : MeshLists) → IsSmallMesh mesh → (kind out : Kind) (rows : List (List ℕ)) (n : ℕ) → rows ≡ near_lists mesh kind out → n ≡ count mesh out → CanTranspose rows n
can_transpose mesh small kind out rows n e f = record {
  few = subst (λ c. c < 2 ^ 32) (sym (ap (λ t. length t) e ∙ near_lists_length mesh kind out)) (small.fits kind);
  below = rows_below mesh kind out rows n e f;
  ascending = rows_rise mesh kind out rows e;
}

pub are_lists_below : (mesh : MeshLists) → IsSmallMesh mesh → (kind by : Kind) (through back : List (List ℕ)) → through ≡ near_lists mesh kind by → back ≡ near_lists mesh by kind → AreListsBelow through (length back)
are_lists_below mesh small kind by through back e f = record {
  few = subst (λ c. c < 2 ^ 32) (sym (ap (λ t. length t) e ∙ near_lists_length mesh kind by)) (small.fits kind);
  below = rows_below mesh kind by through (length back) e (ap (λ t. length t) f ∙ near_lists_length mesh by kind);
}

-- incidence of elements of different kinds is symmetric
pub edge_vertex_symmetric : (mesh : MeshLists) (x y : ℕ) → is_incident mesh Edge x Vertex y ≡ is_incident mesh Vertex y Edge x
edge_vertex_symmetric mesh x y = includes_symmetric (corners mesh Edge x) (corners mesh Vertex y)

pub face_vertex_symmetric : (mesh : MeshLists) (x y : ℕ) → is_incident mesh Face x Vertex y ≡ is_incident mesh Vertex y Face x
face_vertex_symmetric mesh x y = includes_symmetric (corners mesh Face x) (corners mesh Vertex y)

pub cell_vertex_symmetric : (mesh : MeshLists) (x y : ℕ) → is_incident mesh Cell x Vertex y ≡ is_incident mesh Vertex y Cell x
cell_vertex_symmetric mesh x y = includes_symmetric (corners mesh Cell x) (corners mesh Vertex y)

pub face_edge_symmetric : (mesh : MeshLists) (x y : ℕ) → is_incident mesh Face x Edge y ≡ is_incident mesh Edge y Face x
face_edge_symmetric mesh x y = includes_symmetric (corners mesh Face x) (corners mesh Edge y)

pub cell_edge_symmetric : (mesh : MeshLists) (x y : ℕ) → is_incident mesh Cell x Edge y ≡ is_incident mesh Edge y Cell x
cell_edge_symmetric mesh x y = includes_symmetric (corners mesh Cell x) (corners mesh Edge y)

pub cell_face_symmetric : (mesh : MeshLists) (x y : ℕ) → is_incident mesh Cell x Face y ≡ is_incident mesh Face y Cell x
cell_face_symmetric mesh x y = includes_symmetric (corners mesh Cell x) (corners mesh Face y)

-- the neighbours of vertices, and those of cells
pub vertices_beside : (mesh : MeshLists) (through back all : List (List ℕ)) → through ≡ near_lists mesh Vertex Edge → back ≡ near_lists mesh Edge Vertex
    → AreNeighbourSets through back (length through) all → all ≡ near_lists mesh Vertex Vertex
vertices_beside mesh through back all e f are = neighbours_are mesh Vertex Edge (λ x y. refl) (λ x y. refl) (λ x y. refl) through back all (length through) e f refl are

pub cells_beside : (mesh : MeshLists) (through back : List (List ℕ)) (n : ℕ) (all : List (List ℕ)) → through ≡ near_lists mesh Cell Face → back ≡ near_lists mesh Face Cell → n ≡ length through
    → AreNeighbourSets through back n all → all ≡ near_lists mesh Cell Cell
cells_beside mesh through back n all e f g are = neighbours_are mesh Cell Face (λ x y. refl) (λ x y. refl) (λ x y. refl) through back all n e f g are
