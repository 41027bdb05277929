-- What the operators and the sets require of their operands. This project's own.
use Rattle.std.specs.Prelude.{◌≡◌, ◌<◌, ◌⊎◌, true, Option, Some, None}
use Rattle.liszt_base.specs.MeshLists.{MeshLists}
use Rattle.liszt_base.specs.declared.elements.Elem.{Elem}
use Rattle.liszt_base.specs.declared.elements.Kind.{Kind}
use Rattle.liszt_base.specs.declared.elements.Kind.TheVariants.{Vertex, Edge, Face, Cell}
use Rattle.liszt_base.specs.declared.elements.SetName.{SetName}
use Rattle.mesh_topology.specs.Elements.{count}
use Rattle.topo_operators.specs.Operators.{has_set}

-- an element of the mesh of this kind
abbrev pub IsElement : MeshLists → Kind → Elem → Type 0
IsElement mesh kind x = (x.kind ≡ kind) × (x.id < count mesh kind)

-- nil, or an element of the mesh of this kind
abbrev pub IsNilOrElement : MeshLists → Kind → Option Elem → Type 0
IsNilOrElement mesh kind None = Unit {0}
IsNilOrElement mesh kind (Some x) = IsElement mesh kind x

-- the operands of `towards`: an edge and a vertex, or a face and a cell
abbrev pub AreTowardsOperands : MeshLists → Option Elem → Option Elem → Type 0
AreTowardsOperands mesh x to =
    (IsNilOrElement mesh Edge x × IsNilOrElement mesh Vertex to)
    ⊎ (IsNilOrElement mesh Face x × IsNilOrElement mesh Cell to)

-- an element of the mesh whose kind has this set
pub record IsSetOperand (mesh : MeshLists) (set : SetName) (x : Elem) : Type 0 where
  pub in_range : x.id < count mesh x.kind
  pub kind_has_set : has_set x.kind set ≡ true
