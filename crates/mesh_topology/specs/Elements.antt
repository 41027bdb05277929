-- The elements of a tetrahedral mesh and how they lie together. Vertices,
-- edges, faces and cells are the Liszt paper's (DeVito et al., Supercomputing
-- 2011); their numbers, orders and cycles are this project's own.
use Rattle.std.specs.Prelude.{◌≡◌, ℕ, zero, suc, ◌+◌, ◌-◌, ◌==◌, ◌&&◌, ◌||◌, not}
use Rattle.std.specs.Prelude.{Bool, true, false, Option, List, [], ◌∷◌, map}
use Rattle.std.specs.Prelude.{length, slice_index, slice_index_or, unwrap_or}
use Rattle.std.specs.List.{Contains, list_any, filter, find, flat_map, position, range_with_len}
use Rattle.std.specs.List.Sorted.{IsStrictlyIncreasing}
use Rattle.liszt_base.specs.Corners.{includes, same_members, induced_cycles}
use Rattle.liszt_base.specs.MeshLists.{MeshLists}
use Rattle.liszt_base.specs.declared.elements.Kind.{Kind}
use Rattle.liszt_base.specs.declared.elements.Kind.TheVariants.{Vertex, Edge, Face, Cell}

-- the numbers of [low, high), ascending
abbrev pub numbers : ℕ → ℕ → List ℕ
numbers low high = range_with_len low (high - low)

-- the ascending lists of `size` numbers of [low, high), in
-- lexicographic order: the sets of that size
abbrev pub sets_of : ℕ → ℕ → ℕ → List (List ℕ)
sets_of zero low high = [] ∷ []
sets_of (suc size) low high =
    flat_map (λ n. map (λ set. n ∷ set) (sets_of size (n + 1) high)) (numbers low high)

abbrev pub corner_lists : MeshLists → List (List ℕ)
corner_lists mesh = map (λ cell. cell.corners) mesh.cells

-- ELEMENTS, each as the list of its corners, which are vertices. Vertices are in
-- the order of the points, cells in the order of their lines, each with its
-- corners in the order of the line. Edges are the pairs a < b and faces the
-- triples a < b < c of vertices that some cell includes, in lexicographic order.
abbrev pub is_in_a_cell : MeshLists → List ℕ → Bool
is_in_a_cell mesh set = list_any (λ corners. includes corners set) (corner_lists mesh)

abbrev pub elements : MeshLists → Kind → List (List ℕ)
elements mesh Vertex = sets_of 1 0 (length mesh.points)
elements mesh Edge = filter (is_in_a_cell mesh) (sets_of 2 0 (length mesh.points))
elements mesh Face = filter (is_in_a_cell mesh) (sets_of 3 0 (length mesh.points))
elements mesh Cell = corner_lists mesh

-- The id of an element is its index in that list, from 0: of an edge or a face its rank.
abbrev pub count : MeshLists → Kind → ℕ
count mesh kind = length (elements mesh kind)

abbrev pub corners : MeshLists → Kind → ℕ → List ℕ
corners mesh kind id = slice_index_or (elements mesh kind) id []

-- the id of the element with these corners, which are in any order
abbrev pub id_of_corners : MeshLists → Kind → List ℕ → Option ℕ
id_of_corners mesh kind set = position (same_members set) (elements mesh kind)

-- INCIDENCE of elements of the mesh, whose ids are below the count. Elements of
-- different kinds are incident if the corners of one include those of the other.
-- Two vertices are incident if they are adjacent by an edge, two cells if they are
-- adjacent by a face. No edge is incident with an edge, and no face with a face.
abbrev pub one_includes_other : List ℕ → List ℕ → Bool
one_includes_other xs ys = includes xs ys || includes ys xs

-- two different elements of `kind` that are both incident with some element of the kind `by`
abbrev pub are_adjacent : MeshLists → Kind → Kind → ℕ → ℕ → Bool
are_adjacent mesh kind by x y =
    not (x == y) && list_any
    (λ set. one_includes_other set (corners mesh kind x)
    && one_includes_other set (corners mesh kind y)) (elements mesh by)

abbrev pub is_incident : MeshLists → Kind → ℕ → Kind → ℕ → Bool
is_incident mesh Vertex x Vertex y = are_adjacent mesh Vertex Edge x y
is_incident mesh Edge x Edge y = false
is_incident mesh Face x Face y = false
is_incident mesh Cell x Cell y = are_adjacent mesh Cell Face x y
is_incident mesh kind x other y = one_includes_other (corners mesh kind x) (corners mesh other y)

-- the ids of the elements of `out` that are incident with an element, ascending
abbrev pub near : MeshLists → Kind → ℕ → Kind → List ℕ
near mesh kind id out = filter (is_incident mesh kind id out) (numbers 0 (count mesh out))

-- the ids of the cells beside a face, ascending
abbrev pub sides : MeshLists → ℕ → List ℕ
sides mesh face = near mesh Face face Cell

-- CYCLES of three corners: the rotations of a cycle, the rotation that
-- begins with `first`, and the steps from each corner to the next
abbrev pub rotations : List ℕ → List (List ℕ)
rotations (a ∷ b ∷ c ∷ []) = (a ∷ b ∷ c ∷ []) ∷ (b ∷ c ∷ a ∷ []) ∷ (c ∷ a ∷ b ∷ []) ∷ []
rotations _ = []

abbrev pub rotation_from : ℕ → List ℕ → List ℕ
rotation_from first cycle =
    unwrap_or (find (λ rotation. slice_index rotation 0 == first) (rotations cycle)) []

abbrev pub steps : List ℕ → List (ℕ × ℕ)
steps (a ∷ b ∷ c ∷ []) = (a, b) ∷ (b, c) ∷ (c, a) ∷ []
steps _ = []

-- the cycle of an unflipped face: of the cycles that its first side induces the one
-- with the corners of the face, as the rotation that begins with the smallest corner
abbrev pub face_cycle : MeshLists → ℕ → List ℕ
face_cycle mesh face =
    rotation_from (slice_index (corners mesh Face face) 0)
    (unwrap_or (find (same_members (corners mesh Face face))
    (induced_cycles (corners mesh Cell (slice_index (sides mesh face) 0)))) [])

-- the steps of the four cycles that the corners of a cell induce
abbrev pub cell_steps : List ℕ → List (ℕ × ℕ)
cell_steps corners = flat_map steps (induced_cycles corners)

abbrev pub is_step : ℕ → ℕ → ℕ × ℕ → Bool
is_step from to step = (step.0 == from) && (step.1 == to)

-- a rotation of a cycle that the first side of a face induces; it begins
-- with the smallest corner of the face and has the corners of the face
pub record IsCycleOf (mesh : MeshLists) (face : ℕ) (cycle : List ℕ) : Type 0 where
  pub induced : Contains
      (flat_map rotations (induced_cycles (corners mesh Cell (slice_index (sides mesh face) 0))))
      cycle
  pub begins : slice_index cycle 0 ≡ slice_index (corners mesh Face face) 0
  pub same_corners : same_members cycle (corners mesh Face face) ≡ true

-- a set of `size` corners of some cell, as an ascending list
pub record IsSetOfCorners (cells : List (List ℕ)) (size : ℕ) (set : List ℕ) : Type 0 where
  pub size_is : length set ≡ size
  pub ascending : IsStrictlyIncreasing set
  pub in_a_cell : list_any (λ corners. includes corners set) cells ≡ true

-- the number of corners of an edge or a face
abbrev pub HasCorners : Kind → ℕ → Type 0
HasCorners Edge size = size ≡ 2
HasCorners Face size = size ≡ 3
HasCorners _ size = ⊥

-- the kinds of elements that can be incident with elements of a kind
abbrev pub has_near : Kind → Kind → Bool
has_near Edge Edge = false
has_near Face Face = false
has_near _ _ = true
