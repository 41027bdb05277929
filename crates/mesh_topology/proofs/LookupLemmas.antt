-- Reads of the tables give the lists of the definitions.
use Rattle.std.proofs.Common.{◌≡◌, ℕ, ◌<◌, ◌≤◌, List, [], ◌∷◌, length, get_or, slice_get, Some, refl, sym, ap, subst, ◌∙◌, arith}
use Rattle.std.proofs.lemmas.Option.{get_or_from_slice_get}
use Rattle.std.proofs.lemmas.List.{get_or_read}
use Rattle.liszt_base.specs.Corners.{IsMesh}
use Rattle.liszt_base.specs.MeshLists.{MeshLists}
use Rattle.liszt_base.specs.declared.elements.Kind.{Kind}
use Rattle.liszt_base.specs.declared.elements.Kind.TheVariants.{Face, Cell}
use Rattle.mesh_topology.specs.Elements.{corner_lists, count, near, sides}
use Rattle.mesh_topology.specs.Internal.Tables.{near_lists, IsSmallMesh}
use Rattle.mesh_topology.proofs.SideLemmas.{one_or_two}
use Rattle.mesh_topology.proofs.LowerTableLemmas.{near_lists_length, near_lists_at}

-- an id below the count is an index of the table
pub inside : (mesh now : MeshLists) (kind out : Kind) (table : List (List ℕ)) (id : ℕ) → table ≡ near_lists mesh kind out → mesh ≡ now → id < count now kind → id < length table
inside mesh now kind out table id e f l =
    subst (λ n. id < n) (sym (ap (λ t. length t) e ∙ (near_lists_length mesh kind out ∙ ap (λ m. count m kind) f))) l

at_near : (mesh now : MeshLists) (kind out what : Kind) (table : List (List ℕ)) (id : ℕ) → table ≡ near_lists mesh kind out → mesh ≡ now → what ≡ out → id < count now kind → get_or table id [] ≡ near now kind id what
at_near mesh now kind out what table id e f g l =
    ap (λ t. get_or t id []) (e ∙ ap (λ m. near_lists m kind out) f) ∙ (near_lists_at now kind out id l ∙ ap (λ k. near now kind id k) (sym g))

-- the list at an index is that of the definitions
pub read : (mesh now : MeshLists) (kind out what : Kind) (table : List (List ℕ)) (id : ℕ) (row : List ℕ) → table ≡ near_lists mesh kind out → mesh ≡ now → what ≡ out → id < count now kind
    → slice_get table id ≡ Some row → row ≡ near now kind id what
read mesh now kind out what table id row e f g l h = sym (get_or_from_slice_get table id row [] h) ∙ at_near mesh now kind out what table id e f g l

-- the same for a table of arrays
pub read_row : (mesh now : MeshLists) (kind out what : Kind) (table : List (List ℕ)) (id : ℕ) (row : List ℕ) → table ≡ near_lists mesh kind out → mesh ≡ now → what ≡ out → id < count now kind
    → row ≡ get_or table id row → row ≡ near now kind id what
read_row mesh now kind out what table id row e f g l h =
    get_or_read table id row (inside mesh now kind out table id e f l) h [] ∙ at_near mesh now kind out what table id e f g l

-- lists of one and of two members
pub one_listed : (xs : List ℕ) → length xs ≡ 1 → xs ≡ get_or xs 0 0 ∷ []
one_listed (a ∷ []) l = refl
one_listed [] l = absurd (omega arith)
one_listed (a ∷ b ∷ xs) l = absurd (omega arith)

pub two_listed : (xs : List ℕ) → length xs ≡ 2 → xs ≡ get_or xs 0 0 ∷ get_or xs 1 0 ∷ []
two_listed (a ∷ b ∷ []) l = refl
two_listed [] l = absurd (omega arith)
two_listed (a ∷ []) l = absurd (omega arith)
two_listed (a ∷ b ∷ c ∷ xs) l = absurd (omega arith)

-- the list of the cells of a face
pub record AreSides (mesh : MeshLists) (face : ℕ) (row : List ℕ) : Type 0 where
  pub is : sides mesh face ≡ row
  pub some : 1 ≤ length row
  pub few : length row ≤ 2

pub are_sides : (mesh now : MeshLists) (table : List (List ℕ)) (face : ℕ) (row : List ℕ) → IsSmallMesh mesh → table ≡ near_lists mesh Face Cell → mesh ≡ now → face < count now Face
    → slice_get table face ≡ Some row → AreSides now face row
are_sides mesh now table face row small e f l h =
    let is = read mesh now Face Cell Cell table face row e f refl l h in
    let both = one_or_two now (subst (λ m. IsMesh (length m.points) (corner_lists m)) f small.is_mesh) face l in
    record { is = sym is; some = subst (λ r. 1 ≤ length r) (sym is) both.0; few = subst (λ r. length r ≤ 2) (sym is) both.1 }
