-- Kinds of elements, and the sets that an element has. The kinds are the Liszt paper's
-- (DeVito et al., Supercomputing 2011); which sets there are is this project's own.
use Rattle.std.specs.Prelude.{Bool, true, false}
use Rattle.liszt_base.specs.declared.elements.Kind.{Kind}
use Rattle.liszt_base.specs.declared.elements.Kind.TheVariants.{Vertex, Edge, Face, Cell}
use Rattle.liszt_base.specs.declared.elements.SetName.{SetName}
use Rattle.liszt_base.specs.declared.elements.SetName.TheVariants.{Vertices, Edges, Faces, Cells}
use Rattle.liszt_base.specs.declared.elements.SetName.TheVariants.{EdgesCcw}

abbrev pub is_kind : Kind → Kind → Bool
is_kind Vertex Vertex = true
is_kind Edge Edge = true
is_kind Face Face = true
is_kind Cell Cell = true
is_kind _ _ = false

-- which sets an element of a kind has
abbrev pub has_set : Kind → SetName → Bool
has_set Edge Edges = false
has_set Face Faces = false
has_set Face EdgesCcw = true
has_set _ EdgesCcw = false
has_set _ _ = true

-- the kind of the members of a set
abbrev pub kind_of : SetName → Kind
kind_of Vertices = Vertex
kind_of Edges = Edge
kind_of Faces = Face
kind_of Cells = Cell
kind_of EdgesCcw = Edge
