-- Codes that fit the frame of their comprehension: each slot is one of the frame, each element is of the kind that is wanted there, and
-- each field and scalar is one of the program. This project's own.
use Rattle.std.specs.Option.{option_and_then}
use Rattle.std.specs.Prelude.{◌≡◌, ℕ, ◌&&◌, nat_lt, if◌then◌else◌, Bool, true, false, Option, Some, None, is_some, List, [], ◌∷◌, map, length, slice_get}
use Rattle.liszt_base.specs.Kinds.{is_kind, has_set, kind_of}
use Rattle.liszt_base.specs.declared.elements.Kind.{Kind}
use Rattle.liszt_base.specs.declared.elements.Kind.TheVariants.{Vertex, Edge, Face, Cell}
use Rattle.liszt_base.specs.declared.elements.SetName.{SetName}
use Rattle.resolved_code.specs.declared.expressions.ElementCode.{ElementCode, fold-ElementCode}
use Rattle.resolved_code.specs.declared.expressions.ElementCode.TheOpen.{ElementCode-F}
use Rattle.resolved_code.specs.declared.expressions.ElementFun.{ElementFun}
use Rattle.resolved_code.specs.declared.expressions.ElementFun.TheVariants.{Head, Tail, Inside, Outside, Flip}
use Rattle.resolved_code.specs.declared.expressions.NumberCode.{NumberCode, fold-NumberCode}
use Rattle.resolved_code.specs.declared.expressions.NumberCode.TheOpen.{NumberCode-F, NumberLink-F}
use Rattle.resolved_code.specs.declared.expressions.TruthCode.{TruthCode, fold-TruthCode}
use Rattle.resolved_code.specs.declared.expressions.TruthCode.TheOpen.{TruthCode-F, TruthLink-F}
use Rattle.resolved_code.specs.declared.items.ComprehensionCode.{ComprehensionCode}
use Rattle.resolved_code.specs.declared.statements.StatementCode.{StatementCode, fold-StatementCode}
use Rattle.resolved_code.specs.declared.statements.StatementCode.TheOpen.{StatementCode-F}
use Rattle.phase_types.specs.Checked.{CheckedProgram}
use Rattle.phase_types.specs.Types.{are_towards_kinds}
use Rattle.phase_types.specs.declared.info.FieldInfo.{FieldInfo}

-- A LAYOUT: the kinds of element slots, the number of number slots, the kinds of all fields by their numbers, and the number of scalars
pub record Layout : Type 0 where
  pub elements : List Kind
  pub numbers : ℕ
  pub fields : List (Option Kind)
  pub scalars : ℕ

-- the kinds of the built-in fields, of the number that is reserved, and of the declared fields
abbrev pub field_kinds : List FieldInfo → List (Option Kind)
field_kinds fields = Some Vertex ∷ Some Vertex ∷ Some Vertex ∷ Some Vertex ∷ Some Cell ∷ None ∷ map (λ field. Some field.kind) fields

abbrev pub layout_of : CheckedProgram → ComprehensionCode → Layout
layout_of checked c = record { elements = c.elements; numbers = c.numbers; fields = field_kinds checked.fields; scalars = length checked.scalars }

abbrev pub is_of_kind : Kind → Option Kind → Bool
is_of_kind kind None = false
is_of_kind kind (Some other) = is_kind kind other

abbrev pub field_kind : Layout → ℕ → Option Kind
field_kind layout field = option_and_then (λ kind. kind) (slice_get layout.fields field)

abbrev pub same_kind : Option Kind → Option Kind → Bool
same_kind None other = false
same_kind (Some kind) other = is_of_kind kind other

-- THE KIND of an element, if it has one
abbrev pub call_kind : ElementFun → Kind → Option Kind
call_kind Head Edge = Some Vertex
call_kind Tail Edge = Some Vertex
call_kind Inside Face = Some Cell
call_kind Outside Face = Some Cell
call_kind Flip Edge = Some Edge
call_kind Flip Face = Some Face
call_kind _ _ = None

abbrev pub towards_kind : Option Kind → Option Kind → Option Kind
towards_kind (Some kind) (Some other) = if are_towards_kinds kind other then Some kind else None
towards_kind _ _ = None

abbrev pub element_layer : Layout → ElementCode-F (Option Kind) → Option Kind
element_layer layout (ElementCode-F.Slot slot) = slice_get layout.elements slot
element_layer layout (ElementCode-F.Call fun arg) = option_and_then (call_kind fun) arg
element_layer layout (ElementCode-F.Towards arg to) = towards_kind arg to

abbrev pub element_kind : Layout → ElementCode → Option Kind
element_kind layout e = fold-ElementCode (Option Kind) (element_layer layout) e

abbrev pub all_fit : List Bool → Bool
all_fit [] = true
all_fit (b ∷ rest) = b && all_fit rest

-- NUMBERS
abbrev pub number_layer : Layout → NumberCode-F Bool Bool → Bool
number_layer layout (NumberCode-F.Constant value) = true
number_layer layout (NumberCode-F.Local slot) = nat_lt slot layout.numbers
number_layer layout (NumberCode-F.Scalar scalar) = nat_lt scalar layout.scalars
number_layer layout (NumberCode-F.Field place field arg) = same_kind (field_kind layout field) (element_kind layout arg)
number_layer layout (NumberCode-F.Id place arg) = is_some (element_kind layout arg)
number_layer layout (NumberCode-F.Neg place arg) = arg
number_layer layout (NumberCode-F.Chain first rest) = first && all_fit rest

abbrev pub number_link_layer : NumberLink-F Bool Bool → Bool
number_link_layer l = l.arg

abbrev pub number_fits : Layout → NumberCode → Bool
number_fits layout e = fold-NumberCode Bool Bool (number_layer layout) number_link_layer e

-- TRUTH VALUES
abbrev pub truth_layer : Layout → TruthCode-F Bool Bool → Bool
truth_layer layout (TruthCode-F.Valid arg) = is_some (element_kind layout arg)
truth_layer layout (TruthCode-F.Not arg) = arg
truth_layer layout (TruthCode-F.Chain first rest) = first && all_fit rest
truth_layer layout (TruthCode-F.CompareNumbers rel left right) = number_fits layout left && number_fits layout right
truth_layer layout (TruthCode-F.CompareElements is_equal left right) = same_kind (element_kind layout left) (element_kind layout right)

abbrev pub truth_link_layer : TruthLink-F Bool Bool → Bool
truth_link_layer l = l.arg

abbrev pub truth_fits : Layout → TruthCode → Bool
truth_fits layout e = fold-TruthCode Bool Bool (truth_layer layout) truth_link_layer e

-- STATEMENTS
abbrev pub has_members : SetName → Option Kind → Bool
has_members set None = false
has_members set (Some kind) = has_set kind set

abbrev pub statement_layer : Layout → StatementCode-F Bool → Bool
statement_layer layout (StatementCode-F.Var slot init) = nat_lt slot layout.numbers && number_fits layout init
statement_layer layout (StatementCode-F.Val slot init) = same_kind (slice_get layout.elements slot) (element_kind layout init)
statement_layer layout (StatementCode-F.Local slot how value) = nat_lt slot layout.numbers && number_fits layout value
statement_layer layout (StatementCode-F.Scalar scalar how value) = nat_lt scalar layout.scalars && number_fits layout value
statement_layer layout (StatementCode-F.Field place field how target value) =
    same_kind (field_kind layout field) (element_kind layout target) && number_fits layout value
statement_layer layout (StatementCode-F.If test first second) = truth_fits layout test && (all_fit first && all_fit second)
statement_layer layout (StatementCode-F.While place test body) = truth_fits layout test && all_fit body
statement_layer layout (StatementCode-F.For slot set place arg body) =
    same_kind (slice_get layout.elements slot) (Some (kind_of set)) && (has_members set (element_kind layout arg) && all_fit body)

abbrev pub statement_fits : Layout → StatementCode → Bool
statement_fits layout s = fold-StatementCode Bool (statement_layer layout) s

abbrev pub body_fits : Layout → List StatementCode → Bool
body_fits layout body = all_fit (map (statement_fits layout) body)

-- the bodies of all comprehensions fit their frames
abbrev pub AllBodiesFit : CheckedProgram → Type 0
AllBodiesFit checked =
    (k : ℕ) (c : ComprehensionCode) → slice_get checked.comprehensions k ≡ Some c
    → (slice_get c.elements 0 ≡ Some c.over) × (body_fits (layout_of checked c) c.body ≡ true)
