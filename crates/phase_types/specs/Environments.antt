-- What the names of a program denote, and what it declares in the order of its text. This project's own.
use Rattle.std.specs.Prelude.{◌≡◌, ◌⊎◌, ℕ, ◌+◌, nat_lt, Bool, true, if◌then◌else◌, Option, Some, None, List, [], ◌∷◌, ◌++◌, length, codes, slice_get}
use Rattle.std.specs.List.{find, filter_map}
use Rattle.std.specs.Option.{option_map}
use Rattle.std.specs.Str.{bytes_eq}
use Rattle.liszt_base.specs.declared.elements.Kind.{Kind}
use Rattle.liszt_base.specs.declared.elements.Kind.TheVariants.{Vertex, Cell}
use Rattle.liszt_tree.specs.Tree.{Body, MainItem, MainField, MainVar, MainAssign, MainIf, MainWhile, MainFor, Print, Main, no_item, item}
use Rattle.phase_types.specs.declared.info.FieldInfo.{FieldInfo}

-- A FINITE MAP is a list of pairs. Of two pairs with one key the first counts.
abbrev pub lookup : {K A : Type 0} → (K → Bool) → List (K × A) → Option A
lookup is_key entries = option_map (λ entry. entry.1) (find (λ entry. is_key entry.0) entries)

-- A BINDING is what a visible name denotes: a field, by its number and the kind of its elements; a scalar of the main program, by
-- its number; a local number; or an element of a kind. An environment binds the visible names, the latest declaration first.
pub data Binding : Type 0 where
  FieldName : ℕ → Kind → Binding
  ScalarName : ℕ → Binding
  LocalName : Binding
  ElementName : Kind → Binding

abbrev pub Environment : Type 0
Environment = List (List ℕ × Binding)

abbrev pub binding_of : Environment → List ℕ → Option Binding
binding_of environment name = lookup (bytes_eq name) environment

-- the fields that are visible from the start
abbrev pub built_in_fields : Environment
built_in_fields =
    (codes "PosX", FieldName 0 Vertex) ∷ (codes "PosY", FieldName 1 Vertex) ∷ (codes "PosZ", FieldName 2 Vertex)
    ∷ (codes "Mark", FieldName 3 Vertex) ∷ (codes "Region", FieldName 4 Cell) ∷ []

-- declared fields are numbered from 6 on; 5 is reserved
abbrev pub first_declared : ℕ
first_declared = 6

abbrev pub is_built_in : ℕ → Bool
is_built_in number = nat_lt number first_declared

-- A COMPREHENSION over the mesh: the environment at its site, the name of its elements, their kind, and its body
pub record Comprehension : Type 0 where
  pub environment : Environment
  pub name : List ℕ
  pub over : Kind
  pub body : Body

-- THE PARTS of a program in the order of its text: fields, each with the scope that declares it; scalars, by their names;
-- comprehensions; and scopes, each by the scope that encloses it. A part's number is the number of earlier parts of its sort.
pub data Part : Type 0 where
  FieldPart : FieldInfo → Part
  ScalarPart : List ℕ → Part
  ComprehensionPart : Comprehension → Part
  ScopePart : ℕ → Part

abbrev pub field_part : Part → Option FieldInfo
field_part (FieldPart info) = Some info
field_part _ = None

abbrev pub scalar_part : Part → Option (List ℕ)
scalar_part (ScalarPart name) = Some name
scalar_part _ = None

abbrev pub comprehension_part : Part → Option Comprehension
comprehension_part (ComprehensionPart c) = Some c
comprehension_part _ = None

abbrev pub scope_part : Part → Option ℕ
scope_part (ScopePart parent) = Some parent
scope_part _ = None

abbrev pub fields_in : List Part → List FieldInfo
fields_in parts = filter_map field_part parts

abbrev pub scalars_in : List Part → List (List ℕ)
scalars_in parts = filter_map scalar_part parts

abbrev pub comprehensions_in : List Part → List Comprehension
comprehensions_in parts = filter_map comprehension_part parts

abbrev pub scopes_in : List Part → List ℕ
scopes_in parts = filter_map scope_part parts

-- A SITE in the main program: the environment and the scope there, and the parts that precede it in the text
pub record Site : Type 0 where
  pub environment : Environment
  pub scope : ℕ
  pub parts : List Part

-- the start of a program; scope 0 is the outermost one and encloses itself
abbrev pub start : Site
start = record { environment = built_in_fields; scope = 0; parts = ScopePart 0 ∷ [] }

-- the numbers of the next field, scalar, comprehension and scope
abbrev pub next_field : Site → ℕ
next_field site = first_declared + length (fields_in site.parts)

abbrev pub next_scalar : Site → ℕ
next_scalar site = length (scalars_in site.parts)

abbrev pub next_comprehension : Site → ℕ
next_comprehension site = length (comprehensions_in site.parts)

abbrev pub next_scope : Site → ℕ
next_scope site = length (scopes_in site.parts)

-- the site after a declaration and after a comprehension
abbrev pub with_field : List ℕ → Kind → Site → Site
with_field name kind site =
    record {
      environment = (name, FieldName (next_field site) kind) ∷ site.environment;
      scope = site.scope;
      parts = site.parts ++ FieldPart (record { name = name; kind = kind; scope = site.scope }) ∷ [];
    }

abbrev pub with_scalar : List ℕ → Site → Site
with_scalar name site =
    record { environment = (name, ScalarName (next_scalar site)) ∷ site.environment; scope = site.scope; parts = site.parts ++ ScalarPart name ∷ [] }

abbrev pub comprehension_at : Site → List ℕ → Kind → Body → Comprehension
comprehension_at site name over body = record { environment = site.environment; name = name; over = over; body = body }

abbrev pub with_comprehension : Comprehension → Site → Site
with_comprehension c site = record { environment = site.environment; scope = site.scope; parts = site.parts ++ ComprehensionPart c ∷ [] }

-- the site at the start of a block; and after a block, whose last site is «end»
abbrev pub block_start : Site → Site
block_start site = record { environment = site.environment; scope = next_scope site; parts = site.parts ++ ScopePart site.scope ∷ [] }

abbrev pub after_block : Site → Site → Site
after_block site «end» = record { environment = site.environment; scope = site.scope; parts = «end».parts }

-- whether an `if` has a block after `else`: it is written, if only as an empty one
abbrev pub has_else_block : Main → Bool → Bool
has_else_block no_item has_else = has_else
has_else_block (item i rest) has_else = true

-- THE SITE AFTER an item, and after items
abbrev mutual
  pub after_item : Site → MainItem → Site
  after_item site (MainField place name at kind init) = with_field name kind site
  after_item site (MainVar place name at init) = with_scalar name site
  after_item site (MainAssign place name how value) = site
  after_item site (MainIf place test first second has_else) =
      let after_first : Site = after_block site (after_main (block_start site) first) in
      if has_else_block second has_else then after_block site (after_main (block_start after_first) second) else after_first
  after_item site (MainWhile place test body) = after_block site (after_main (block_start site) body)
  after_item site (MainFor place name at over body) = with_comprehension (comprehension_at site name over body) site
  after_item site (Print place value) = site

  pub after_main : Site → Main → Site
  after_main site no_item = site
  after_main site (item i rest) = after_main (after_item site i) rest

-- THE PARTS OF A PROGRAM: its declared fields, scalars, comprehensions, and scopes by their parents
abbrev pub parts_of : Main → List Part
parts_of program = (after_main start program).parts

abbrev pub fields_of : Main → List FieldInfo
fields_of program = fields_in (parts_of program)

abbrev pub scalars_of : Main → List (List ℕ)
scalars_of program = scalars_in (parts_of program)

abbrev pub comprehensions_of : Main → List Comprehension
comprehensions_of program = comprehensions_in (parts_of program)

abbrev pub comprehension_of : Main → ℕ → Option Comprehension
comprehension_of program k = slice_get (comprehensions_of program) k

abbrev pub scopes_of : Main → List ℕ
scopes_of program = scopes_in (parts_of program)

-- the parts at one site are the first ones at a later site
pub record IsPrefix (before after : List Part) : Type 0 where
  pub rest : List Part
  pub appended : after ≡ before ++ rest

-- a declared field of this name and kind, whose number is `first_declared` and its index among the declared fields
pub record IsDeclaredField (parts : List Part) (name : List ℕ) (number : ℕ) (kind : Kind) : Type 0 where
  pub index : ℕ
  pub scope : ℕ
  pub number_is : number ≡ first_declared + index
  pub at_index : slice_get (fields_in parts) index ≡ Some (record { name = name; kind = kind; scope = scope })

-- the field or the scalar that a name of the main program denotes is the one with the number of its binding
abbrev pub DenotesPart : List Part → List ℕ → Binding → Type 0
DenotesPart parts name (FieldName number kind) =
    (binding_of built_in_fields name ≡ Some (FieldName number kind)) ⊎ IsDeclaredField parts name number kind
DenotesPart parts name (ScalarName number) = slice_get (scalars_in parts) number ≡ Some name
DenotesPart parts name _ = ⊥

-- all names that are visible at a site denote parts that precede it
pub record BindsParts (site : Site) : Type 0 where
  pub denotes : (name : List ℕ) (binding : Binding) → binding_of site.environment name ≡ Some binding → DenotesPart site.parts name binding
