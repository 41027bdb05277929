-- The types of expressions. This project's own.
use Rattle.std.specs.Prelude.{◌≡◌, ℕ, ◌&&◌, Bool, true, false, if◌then◌else◌, Option, Some, None, List, ℤ}
use Rattle.std.specs.Option.{option_and_then}
use Rattle.liszt_base.specs.Kinds.{is_kind}
use Rattle.liszt_base.specs.declared.answers.Place.{Place}
use Rattle.liszt_base.specs.declared.elements.Kind.{Kind}
use Rattle.liszt_base.specs.declared.elements.Kind.TheVariants.{Vertex, Edge, Face, Cell}
use Rattle.liszt_tree.specs.declared.tree.Fun.{Fun}
use Rattle.liszt_tree.specs.declared.tree.Fun.TheVariants.{Head, Tail, Inside, Outside, Flip, Valid, Id}
use Rattle.liszt_tree.specs.declared.tree.Level.{Level}
use Rattle.liszt_tree.specs.declared.tree.Rel.{Rel}
use Rattle.liszt_tree.specs.declared.tree.Rel.TheVariants.{Same, Other}
use Rattle.liszt_tree.specs.declared.tree.Sign.{Sign}
use Rattle.liszt_tree.specs.declared.tree.Sign.TheVariants.{Or, And}
use Rattle.liszt_tree.specs.Tree.{Expression, Number, Name, Field, Call, Towards, Neg, Not, Chain, Compare, Links, no_links, link}
use Rattle.phase_types.specs.Environments.{Environment, Binding, FieldName, ScalarName, LocalName, ElementName, binding_of}

-- TYPES: number, truth, and element of a kind
pub data ValueType : Type 0 where
  NumberType : ValueType
  TruthType : ValueType
  ElementType : Kind → ValueType

abbrev pub is_type : ValueType → ValueType → Bool
is_type NumberType NumberType = true
is_type TruthType TruthType = true
is_type (ElementType kind) (ElementType other) = is_kind kind other
is_type _ _ = false

-- the type of a call whose argument is an element of a kind, if there is one
abbrev pub call_type : Fun → Kind → Option ValueType
call_type Head Edge = Some (ElementType Vertex)
call_type Tail Edge = Some (ElementType Vertex)
call_type Inside Face = Some (ElementType Cell)
call_type Outside Face = Some (ElementType Cell)
call_type Flip Edge = Some (ElementType Edge)
call_type Flip Face = Some (ElementType Face)
call_type Valid kind = Some TruthType
call_type Id kind = Some NumberType
call_type _ _ = None

-- `towards` takes an edge and a vertex, or a face and a cell
abbrev pub are_towards_kinds : Kind → Kind → Bool
are_towards_kinds Edge Vertex = true
are_towards_kinds Face Cell = true
are_towards_kinds _ _ = false

-- the type of both operands and of the result of an operator: truth values for `&&` and `||`, numbers for the others
abbrev pub operand_type : Sign → ValueType
operand_type Or = TruthType
operand_type And = TruthType
operand_type _ = NumberType

-- the comparisons that also take two elements of one kind; all take numbers
abbrev pub is_sameness : Rel → Bool
is_sameness Same = true
is_sameness Other = true
is_sameness _ = false

-- THE TYPING RELATION: an expression has a type in an environment; the links of a chain follow a first operand of a type
mutual
  pub data HasType (environment : Environment) : Expression → ValueType → Type 0 where
    IsNumber : (place : Place) (value : ℤ) → HasType environment (Number place value) NumberType
    IsScalar : {number : ℕ} (place : Place) (name : List ℕ) → binding_of environment name ≡ Some (ScalarName number) → HasType environment (Name place name) NumberType
    IsLocal : (place : Place) (name : List ℕ) → binding_of environment name ≡ Some LocalName → HasType environment (Name place name) NumberType
    IsElement : {kind : Kind} (place : Place) (name : List ℕ) → binding_of environment name ≡ Some (ElementName kind)
        → HasType environment (Name place name) (ElementType kind)
    IsField : {number : ℕ} {kind : Kind} {arg : Expression} (place : Place) (name : List ℕ) → binding_of environment name ≡ Some (FieldName number kind)
        → HasType environment arg (ElementType kind) → HasType environment (Field place name arg) NumberType
    IsCall : {kind : Kind} {type : ValueType} {arg : Expression} (place : Place) (fun : Fun) → HasType environment arg (ElementType kind)
        → call_type fun kind ≡ Some type → HasType environment (Call place fun arg) type
    IsTowards : {kind other : Kind} {arg to : Expression} (place : Place) → HasType environment arg (ElementType kind) → HasType environment to (ElementType other)
        → are_towards_kinds kind other ≡ true → HasType environment (Towards place arg to) (ElementType kind)
    IsNeg : {arg : Expression} (place : Place) → HasType environment arg NumberType → HasType environment (Neg place arg) NumberType
    IsNot : {arg : Expression} (place : Place) → HasType environment arg TruthType → HasType environment (Not place arg) TruthType
    IsChain : {type : ValueType} {first : Expression} {links : Links} (level : Level) → HasType environment first type → FollowsType environment type links
        → HasType environment (Chain level first links) type
    AreNumbers : {left right : Expression} (place : Place) (rel : Rel) → HasType environment left NumberType → HasType environment right NumberType
        → HasType environment (Compare place rel left right) TruthType
    AreElements : {kind : Kind} {left right : Expression} (place : Place) (rel : Rel) → HasType environment left (ElementType kind)
        → HasType environment right (ElementType kind) → is_sameness rel ≡ true → HasType environment (Compare place rel left right) TruthType

  pub data FollowsType (environment : Environment) : ValueType → Links → Type 0 where
    NoLinks : (type : ValueType) → FollowsType environment type no_links
    OneLink : {type : ValueType} {arg : Expression} {rest : Links} (sign : Sign) (place : Place) → operand_type sign ≡ type
        → HasType environment arg type → FollowsType environment type rest → FollowsType environment type (link sign place arg rest)

-- THE TYPE of an expression, if it has one, as a function
abbrev pub matching_type : ValueType → Option ValueType → Option ValueType
matching_type type None = None
matching_type type (Some other) = if is_type type other then Some type else None

abbrev pub name_type : Option Binding → Option ValueType
name_type (Some (ScalarName number)) = Some NumberType
name_type (Some LocalName) = Some NumberType
name_type (Some (ElementName kind)) = Some (ElementType kind)
name_type _ = None

abbrev pub field_type : Option Binding → Option ValueType → Option ValueType
field_type (Some (FieldName number kind)) arg = option_and_then (λ type. Some NumberType) (matching_type (ElementType kind) arg)
field_type _ arg = None

abbrev pub called_type : Fun → Option ValueType → Option ValueType
called_type fun (Some (ElementType kind)) = call_type fun kind
called_type fun _ = None

abbrev pub towards_type : Option ValueType → Option ValueType → Option ValueType
towards_type (Some (ElementType kind)) (Some (ElementType other)) = if are_towards_kinds kind other then Some (ElementType kind) else None
towards_type _ _ = None

abbrev pub operator_type : Sign → Option ValueType → Option ValueType → Option ValueType
operator_type sign left right =
    option_and_then (λ type. matching_type (operand_type sign) right) (matching_type (operand_type sign) left)

abbrev pub comparison_type : Rel → Option ValueType → Option ValueType → Option ValueType
comparison_type rel (Some NumberType) (Some NumberType) = Some TruthType
comparison_type rel (Some (ElementType kind)) (Some (ElementType other)) = if is_sameness rel && is_kind kind other then Some TruthType else None
comparison_type rel _ _ = None

abbrev mutual
  pub type_of : Environment → Expression → Option ValueType
  type_of environment (Number place value) = Some NumberType
  type_of environment (Name place name) = name_type (binding_of environment name)
  type_of environment (Field place name arg) = field_type (binding_of environment name) (type_of environment arg)
  type_of environment (Call place fun arg) = called_type fun (type_of environment arg)
  type_of environment (Towards place arg to) = towards_type (type_of environment arg) (type_of environment to)
  type_of environment (Neg place arg) = matching_type NumberType (type_of environment arg)
  type_of environment (Not place arg) = matching_type TruthType (type_of environment arg)
  type_of environment (Chain level first links) = type_after_links environment (type_of environment first) links
  type_of environment (Compare place rel left right) = comparison_type rel (type_of environment left) (type_of environment right)

  pub type_after_links : Environment → Option ValueType → Links → Option ValueType
  type_after_links environment type no_links = type
  type_after_links environment type (link sign place arg rest) = type_after_links environment (operator_type sign type (type_of environment arg)) rest
