-- The oriented operators and the sets of elements. The operators are the Liszt paper's (DeVito et
-- al., Supercomputing 2011); which orientation is which, nil and the orders are this project's own.
use Rattle.std.specs.Prelude.{◌≡◌, ℕ, ◌<◌, ◌==◌, ◌&&◌, not, nat_lt, if◌then◌else◌}
use Rattle.std.specs.Prelude.{Bool, true, false, Option, Some, None, List, [], ◌∷◌}
use Rattle.std.specs.Prelude.{map, reverse, slice_get, slice_index, unwrap_or, is_some}
use Rattle.std.specs.List.{find}
use Rattle.std.specs.Option.{option_and_then, option_map}
pub use Rattle.liszt_base.specs.Kinds.{is_kind, has_set}
use Rattle.liszt_base.specs.MeshLists.{MeshLists}
use Rattle.liszt_base.specs.declared.elements.Elem.{Elem}
use Rattle.liszt_base.specs.declared.elements.Kind.{Kind}
use Rattle.liszt_base.specs.declared.elements.Kind.TheVariants.{Vertex, Edge, Face, Cell}
use Rattle.liszt_base.specs.declared.elements.SetName.{SetName}
use Rattle.liszt_base.specs.declared.elements.SetName.TheVariants.{Vertices, Edges, Faces}
use Rattle.liszt_base.specs.declared.elements.SetName.TheVariants.{Cells, EdgesCcw}
use Rattle.mesh_topology.specs.Elements.{count, corners, id_of_corners, near}
use Rattle.mesh_topology.specs.Elements.{sides, rotation_from, steps, face_cycle}

-- An element is an operand or a result with its orientation; nil is `None`.
abbrev pub unflipped : Kind → ℕ → Elem
unflipped kind id = record { kind = kind; id = id; flipped = false }

-- the element in its other orientation
abbrev pub reversed : Elem → Elem
reversed x = record { kind = x.kind; id = x.id; flipped = not x.flipped }

-- ENDS AND SIDES. An unflipped edge goes from its smaller corner, the tail, to
-- its larger one, the head. The inside of an unflipped face is the first of the
-- cells beside it, and its outside the second, or nil. Flipping swaps them.
abbrev pub vertex_at : MeshLists → Elem → ℕ → Option Elem
vertex_at mesh edge place =
    option_map (unflipped Vertex) (slice_get (corners mesh Edge edge.id) place)

abbrev pub cell_at : MeshLists → Elem → ℕ → Option Elem
cell_at mesh face place = option_map (unflipped Cell) (slice_get (sides mesh face.id) place)

abbrev pub tail_of : MeshLists → Elem → Option Elem
tail_of mesh edge = vertex_at mesh edge (if edge.flipped then 1 else 0)

abbrev pub head_of : MeshLists → Elem → Option Elem
head_of mesh edge = vertex_at mesh edge (if edge.flipped then 0 else 1)

abbrev pub inside_of : MeshLists → Elem → Option Elem
inside_of mesh face = cell_at mesh face (if face.flipped then 1 else 0)

abbrev pub outside_of : MeshLists → Elem → Option Elem
outside_of mesh face = cell_at mesh face (if face.flipped then 0 else 1)

-- OPERATORS. Of nil each is nil.
abbrev pub tail : MeshLists → Option Elem → Option Elem
tail mesh x = option_and_then (tail_of mesh) x

abbrev pub head : MeshLists → Option Elem → Option Elem
head mesh x = option_and_then (head_of mesh) x

abbrev pub inside : MeshLists → Option Elem → Option Elem
inside mesh x = option_and_then (inside_of mesh) x

abbrev pub outside : MeshLists → Option Elem → Option Elem
outside mesh x = option_and_then (outside_of mesh) x

-- the other orientation of an edge or a face
abbrev pub flip : Option Elem → Option Elem
flip x = option_map reversed x

-- Two elements are the same if their kinds and ids are equal, in
-- any orientations. Nil is the same as nil, and as no element.
abbrev pub same : Option Elem → Option Elem → Bool
same None None = true
same (Some x) (Some y) = is_kind x.kind y.kind && (x.id == y.id)
same _ _ = false

abbrev pub valid : Option Elem → Bool
valid x = is_some x

-- the element to which an orientation points: the head of an edge, the outside of a face
abbrev pub points_to : MeshLists → Elem → Option Elem
points_to mesh x = orientation x.kind where
  orientation : Kind → Option Elem
  orientation Edge = head_of mesh x
  orientation Face = outside_of mesh x
  orientation _ = None

-- both orientations of an edge or a face
abbrev pub orientations : Elem → List Elem
orientations x = unflipped x.kind x.id ∷ reversed (unflipped x.kind x.id) ∷ []

-- the orientation of `x` that points to `to`, or nil if neither does
abbrev pub towards_of : MeshLists → Elem → Elem → Option Elem
towards_of mesh x to =
    find (λ orientation. same (points_to mesh orientation) (Some to)) (orientations x)

abbrev pub towards : MeshLists → Option Elem → Option Elem → Option Elem
towards mesh x to = option_and_then (λ x'. option_and_then (towards_of mesh x') to) x

-- SETS. The cycle of a face begins with its smallest corner; flipping the face
-- reverses it. Its edges are in the order of the cycle, each oriented along it.
abbrev pub cycle_of : MeshLists → Elem → List ℕ
cycle_of mesh face =
    if face.flipped then rotation_from (slice_index (corners mesh Face face.id) 0)
    (reverse (face_cycle mesh face.id)) else face_cycle mesh face.id

abbrev pub edge_along : MeshLists → ℕ × ℕ → Elem
edge_along mesh step =
    record {
      kind = Edge;
      id = unwrap_or (id_of_corners mesh Edge (step.0 ∷ step.1 ∷ [])) 0;
      flipped = nat_lt step.1 step.0;
    }

-- an edge of the mesh that goes from the first vertex of a step to the second
pub record GoesAlong (mesh : MeshLists) (step : ℕ × ℕ) (edge : Elem) : Type 0 where
  pub is_edge : edge.kind ≡ Edge
  pub in_range : edge.id < count mesh Edge
  pub from : tail mesh (Some edge) ≡ Some (unflipped Vertex step.0)
  pub to : head mesh (Some edge) ≡ Some (unflipped Vertex step.1)

-- the members of a set of an element: the elements near it,
-- unflipped, by ascending id; for `edges_ccw` the edges of its cycle
abbrev pub members : MeshLists → SetName → Elem → List Elem
members mesh Vertices x = map (unflipped Vertex) (near mesh x.kind x.id Vertex)
members mesh Edges x = map (unflipped Edge) (near mesh x.kind x.id Edge)
members mesh Faces x = map (unflipped Face) (near mesh x.kind x.id Face)
members mesh Cells x = map (unflipped Cell) (near mesh x.kind x.id Cell)
members mesh EdgesCcw x = map (edge_along mesh) (steps (cycle_of mesh x))
