-- Lists of ids: their transposition, and the other ids on
-- the lists that have an id. This project's own.
use Rattle.std.specs.Prelude.{◌≡◌, ◌↔◌, ℕ, ◌+◌, ◌*◌, ◌/◌, ◌%◌, ◌<◌, ◌^◌, ◌==◌}
use Rattle.std.specs.Prelude.{nat_lt, not, Bool, List, [], ◌∷◌, ◌++◌, map}
use Rattle.std.specs.Prelude.{length, slice_index, slice_index_or, if◌then◌else◌}
use Rattle.std.specs.List.{filter, flat_map, All, AllPairs, Contains}
use Rattle.liszt_base.specs.Corners.{is_in}
use Rattle.mesh_topology.specs.Internal.Combinations.{begins_with, combinations}
use Rattle.mesh_topology.specs.Elements.{numbers}

-- for each id below `count` the indices of the rows that contain it, ascending
abbrev pub transposed : List (List ℕ) → ℕ → List (List ℕ)
transposed rows count =
    map (λ y. filter (λ x. is_in (slice_index_or rows x []) y) (numbers 0 (length rows)))
    (numbers 0 count)

-- rows of ids below `count`, each ascending
pub record CanTranspose (rows : List (List ℕ)) (count : ℕ) : Type 0 where
  pub few : length rows < 2 ^ 32
  pub below : All (All (λ y. y < count)) rows
  pub ascending : All (AllPairs (λ x y. x < y)) rows

-- for each vertex the indices of the cells that have it
pub record AreVertexCells (cells lists : List (List ℕ)) : Type 0 where
  pub transposable : CanTranspose cells (length lists)
  pub transposed_cells : lists ≡ transposed cells (length lists)
  pub few : length lists < 2 ^ 32

-- the combinations of the rows `ids` that begin with `first`
abbrev pub combinations_from : ℕ → List (List ℕ) → ℕ → List ℕ → List (List ℕ)
combinations_from size rows first ids =
    flat_map (λ id. filter (begins_with first) (combinations size (slice_index_or rows id []))) ids

abbrev pub is_above : ℕ → ℕ → Bool
is_above low x = nat_lt low x

-- the members of the rows `ids` that are above `low`
abbrev pub members_above : List (List ℕ) → ℕ → List ℕ → List ℕ
members_above rows low ids = flat_map (λ id. filter (is_above low) (slice_index_or rows id [])) ids

-- the second and the third corner of a triple as one number
abbrev pub key : List ℕ → ℕ
key set = slice_index set 1 * 2 ^ 32 + slice_index set 2

-- the keys of those triples of the rows `ids` that begin with `first`
abbrev pub keys_in : List (List ℕ) → ℕ → List ℕ → List ℕ
keys_in rows first ids =
    flat_map (λ id. map key
    (filter (begins_with first) (combinations 3 (slice_index_or rows id [])))) ids

-- the triple with a first corner and a key
abbrev pub triple : ℕ → ℕ → List ℕ
triple first n = first ∷ n / 2 ^ 32 ∷ n % 2 ^ 32 ∷ []

abbrev pub pair : ℕ → ℕ → List ℕ
pair first second = first ∷ second ∷ []

-- the items at the indices in `row` are changed, and all others are unchanged
pub record AreChangedAt {A : Type 0} (default : A) (change : A → A) (row : List ℕ)
    (old new : List A) : Type 0 where
  pub length_is : length new ≡ length old
  pub at : (y : ℕ) → y < length old
      → slice_index_or new y default
      ≡ (if is_in row y then change (slice_index_or old y default)
      else slice_index_or old y default)

-- the transposition of the first `done` rows
pub record IsTransposedSoFar (rows : List (List ℕ)) (count done : ℕ) (lists : List (List ℕ)) : Type
    0 where
  pub length_is : length lists ≡ count
  pub at : (y : ℕ) → y < count
      → slice_index_or lists y []
      ≡ filter (λ x. is_in (slice_index_or rows x []) y) (numbers 0 done)

-- for each id below `count` the number of the first `done` rows that contain it
pub record AreDegreesSoFar (rows : List (List ℕ)) (count done : ℕ) (degrees : List ℕ) : Type 0 where
  pub length_is : length degrees ≡ count
  pub at : (y : ℕ) → y < count
      → slice_index degrees y
      ≡ length (filter (λ x. is_in (slice_index_or rows x []) y) (numbers 0 done))

-- the cells on a list that have a corner, by a pair of the index of the list and the corner
abbrev pub cells_with : List (List ℕ) → List (List ℕ) → List ℕ → List ℕ
cells_with cells lists pair =
    filter (λ id. is_in (slice_index_or cells id []) (slice_index pair 1))
    (slice_index_or lists (slice_index pair 0) [])

-- pairs of the index of a list and a corner, with lists of cells
pub record ArePairsInRange (cells pairs lists : List (List ℕ)) : Type 0 where
  pub places : (id : ℕ) → id < length pairs
      → slice_index (slice_index_or pairs id []) 0 < length lists
  pub below : All (All (λ id. id < length cells)) lists

-- for each of the first `done` faces its first edge and its last corner
pub record AreEdgeCornerPairsSoFar (faces edges : List (List ℕ)) (done : ℕ)
    (pairs : List (List ℕ)) : Type 0 where
  pub length_is : length pairs ≡ done
  pub at : (id : ℕ) → id < done
      → slice_index_or pairs id [] ≡ slice_index (slice_index_or edges id []) 0
      ∷ slice_index (slice_index_or faces id []) 2 ∷ []

abbrev pub AreEdgeCornerPairs : List (List ℕ) → List (List ℕ) → List (List ℕ) → Type 0
AreEdgeCornerPairs faces edges pairs = AreEdgeCornerPairsSoFar faces edges (length faces) pairs

-- lists of ids below `count`
pub record AreListsBelow (lists : List (List ℕ)) (count : ℕ) : Type 0 where
  pub few : length lists < 2 ^ 32
  pub below : All (All (λ y. y < count)) lists

-- the members of a list, each once, ascending
pub record IsSetOf (ids set : List ℕ) : Type 0 where
  pub ascending : AllPairs (λ x y. x < y) set
  pub members : (x : ℕ) → Contains set x ↔ Contains ids x

abbrev pub differs_from : ℕ → ℕ → Bool
differs_from id x = not (x == id)

-- the ids other than `id` on the lists whose indices are in `through`
abbrev pub other_members : ℕ → List (List ℕ) → List ℕ → List ℕ
other_members id lists through =
    flat_map (λ by. filter (differs_from id) (slice_index_or lists by [])) through

-- for each of the first `done` ids the set of its other members on the lists `back`
pub record AreNeighbourSets (through back : List (List ℕ)) (done : ℕ) (all : List (List ℕ)) : Type 0
  where
    pub length_is : length all ≡ done
    pub at : (id : ℕ) → id < done
        → IsSetOf (other_members id back (slice_index_or through id [])) (slice_index_or all id [])

-- each id of a list has the others of the list appended to
-- its row, and all other rows are unchanged
pub record AreOthersAppended (list : List ℕ) (old new : List (List ℕ)) : Type 0 where
  pub length_is : length new ≡ length old
  pub at : (y : ℕ) → y < length old
      → slice_index_or new y []
      ≡ (if is_in list y then slice_index_or old y [] ++ filter (differs_from y) list
      else slice_index_or old y [])

-- for each id below `count` the others on those of the first `done` lists that contain it
pub record AreOthersSoFar (lists : List (List ℕ)) (count done : ℕ) (rows : List (List ℕ)) : Type 0
  where
    pub length_is : length rows ≡ count
    pub at : (y : ℕ) → y < count
        → slice_index_or rows y []
        ≡ other_members y lists (filter (λ x. is_in (slice_index_or lists x []) y) (numbers 0 done))
