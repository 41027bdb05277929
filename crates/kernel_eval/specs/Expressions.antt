-- What element expressions give, by the bindings of element names alone. This project's own.
use Rattle.std.specs.Prelude.{ℕ, Option, Some, None, List, ◌∷◌}
use Rattle.std.specs.Option.{option_and_then, option_map}
use Rattle.std.specs.Str.{bytes_eq}
use Rattle.liszt_base.specs.MeshLists.{MeshLists}
use Rattle.liszt_base.specs.declared.elements.Elem.{Elem}
use Rattle.liszt_tree.specs.declared.tree.Fun.{Fun}
use Rattle.liszt_tree.specs.declared.tree.Fun.TheVariants.{Head, Tail, Inside, Outside, Flip, Valid, Id}
use Rattle.liszt_tree.specs.Tree.{Expression, Name, Call, Towards, Chain, no_links}
use Rattle.liszt_tree.specs.Tree.{Statement, Val}
use Rattle.topo_operators.specs.Operators.{head, tail, inside, outside, flip, towards}
use Rattle.phase_types.specs.Environments.{lookup}

-- the element, or nil, of each element name, the latest declaration first
abbrev pub ElementBindings : Type 0
ElementBindings = List (List ℕ × Option Elem)

abbrev pub called_element : MeshLists → Fun → Option Elem → Option (Option Elem)
called_element mesh Head x = Some (head mesh x)
called_element mesh Tail x = Some (tail mesh x)
called_element mesh Inside x = Some (inside mesh x)
called_element mesh Outside x = Some (outside mesh x)
called_element mesh Flip x = Some (flip x)
called_element mesh Valid x = None
called_element mesh Id x = None

-- THE ELEMENT of an expression, or nil; no value if it is no element expression. A chain without an operator, which no text has, is its
-- operand.
abbrev pub element_value : MeshLists → ElementBindings → Expression → Option (Option Elem)
element_value mesh elements (Name place name) = lookup (bytes_eq name) elements
element_value mesh elements (Call place fun arg) = option_and_then (called_element mesh fun) (element_value mesh elements arg)
element_value mesh elements (Towards place arg to) =
    option_and_then (λ x. option_map (towards mesh x) (element_value mesh elements to)) (element_value mesh elements arg)
element_value mesh elements (Chain level first no_links) = element_value mesh elements first
element_value mesh elements _ = None

-- THE BINDINGS AFTER a statement: `val` adds one.
abbrev pub with_binding : List ℕ → Option (Option Elem) → ElementBindings → ElementBindings
with_binding name None elements = elements
with_binding name (Some x) elements = (name, x) ∷ elements

abbrev pub elements_after : MeshLists → ElementBindings → Statement → ElementBindings
elements_after mesh elements (Val place name at init) = with_binding name (element_value mesh elements init) elements
elements_after mesh elements _ = elements
