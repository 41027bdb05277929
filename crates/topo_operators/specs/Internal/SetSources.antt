-- The elements that an iterator over a set has yet to yield. This project's own.
use Rattle.std.specs.Prelude.{List}
use Rattle.liszt_base.specs.declared.elements.Elem.{Elem}
use Rattle.topo_operators.specs.declared.sets.SetSource.{SetSource}
use Rattle.topo_operators.specs.declared.sets.SetSource.TheVariants.{Near, Along}

-- the remaining members of a set
abbrev pub remaining_members : SetSource → List Elem
remaining_members (Near elements) = elements
remaining_members (Along edges) = edges
