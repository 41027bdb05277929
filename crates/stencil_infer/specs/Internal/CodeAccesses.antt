-- The accesses and the visits of resolved code. This project's own.
use Rattle.std.specs.Prelude.{◌≡◌, ◌&&◌, Bool, true, false, is_some, ℕ, ◌+◌, Option, Some, None, List, [], ◌∷◌, ◌++◌, map, length, slice_get}
use Rattle.std.specs.List.{flat_map, slice_set}
use Rattle.std.specs.Option.{option_and_then}
use Rattle.liszt_base.specs.Kinds.{has_set, is_kind, kind_of as kind_of_set}
use Rattle.liszt_base.specs.MeshLists.{MeshLists}
use Rattle.liszt_base.specs.declared.accesses.Access.{Access}
use Rattle.liszt_base.specs.declared.accesses.Mode.{Mode}
use Rattle.liszt_base.specs.declared.accesses.Mode.TheVariants.{Read}
use Rattle.liszt_base.specs.declared.elements.Elem.{Elem}
use Rattle.liszt_base.specs.declared.elements.Kind.{Kind}
use Rattle.liszt_base.specs.declared.elements.Kind.TheVariants.{Vertex, Edge, Face, Cell}
use Rattle.liszt_base.specs.declared.elements.SetName.{SetName}
use Rattle.resolved_code.specs.declared.expressions.ElementCode.{ElementCode, fold-ElementCode}
use Rattle.resolved_code.specs.declared.expressions.ElementCode.TheOpen.{ElementCode-F}
use Rattle.resolved_code.specs.declared.expressions.ElementFun.{ElementFun}
use Rattle.resolved_code.specs.declared.expressions.ElementFun.TheVariants.{Head, Tail, Inside, Outside, Flip}
use Rattle.resolved_code.specs.declared.expressions.NumberCode.{NumberCode, fold-NumberCode}
use Rattle.resolved_code.specs.declared.expressions.NumberCode.TheOpen.{NumberCode-F, NumberLink-F}
use Rattle.resolved_code.specs.declared.expressions.NumberLink.{NumberLink, fold-NumberLink}
use Rattle.resolved_code.specs.declared.expressions.TruthLink.{TruthLink, fold-TruthLink}
use Rattle.resolved_code.specs.declared.expressions.TruthCode.{TruthCode, fold-TruthCode}
use Rattle.resolved_code.specs.declared.expressions.TruthCode.TheOpen.{TruthCode-F, TruthLink-F}
use Rattle.resolved_code.specs.declared.statements.StatementCode.{StatementCode, fold-StatementCode}
use Rattle.resolved_code.specs.declared.statements.StatementCode.TheOpen.{StatementCode-F}
use Rattle.topo_operators.specs.Operands.{IsNilOrElement}
use Rattle.topo_operators.specs.Operators.{head, tail, inside, outside, flip, towards, members}
use Rattle.phase_types.specs.Walk.{mode_by}

-- the element, or nil, of each element slot
abbrev pub Slots : Type 0
Slots = List (Option Elem)

abbrev pub in_slot : Slots → ℕ → Option Elem
in_slot slots slot = option_and_then (λ x. x) (slice_get slots slot)

abbrev pub called : MeshLists → ElementFun → Option Elem → Option Elem
called mesh Head x = head mesh x
called mesh Tail x = tail mesh x
called mesh Inside x = inside mesh x
called mesh Outside x = outside mesh x
called mesh Flip x = flip x

-- THE ELEMENT of an element expression, and its visits
abbrev pub element_layer : MeshLists → Slots → ElementCode-F (Option Elem) → Option Elem
element_layer mesh slots (ElementCode-F.Slot slot) = in_slot slots slot
element_layer mesh slots (ElementCode-F.Call fun x) = called mesh fun x
element_layer mesh slots (ElementCode-F.Towards x to) = towards mesh x to

abbrev pub element_of : MeshLists → Slots → ElementCode → Option Elem
element_of mesh slots code = fold-ElementCode (Option Elem) (element_layer mesh slots) code

abbrev pub element_visits_layer : ElementCode-F ℕ → ℕ
element_visits_layer (ElementCode-F.Slot slot) = 1
element_visits_layer (ElementCode-F.Call fun n) = 1 + n
element_visits_layer (ElementCode-F.Towards n m) = 1 + n + m

abbrev pub element_visits : ElementCode → ℕ
element_visits code = fold-ElementCode ℕ element_visits_layer code

-- THE ACCESSES OF NUMBERS and truth values, and their visits
abbrev pub at_element : Mode → ℕ → Option Elem → List Access
at_element mode field None = []
at_element mode field (Some x) = record { spot = record { field = field; id = x.id }; mode = mode } ∷ []

abbrev pub joined : List (List Access) → List Access
joined lists = flat_map (λ list. list) lists

abbrev pub number_layer : MeshLists → Slots → NumberCode-F (List Access) (List Access) → List Access
number_layer mesh slots (NumberCode-F.Field place field arg) = at_element Read field (element_of mesh slots arg)
number_layer mesh slots (NumberCode-F.Neg place arg) = arg
number_layer mesh slots (NumberCode-F.Chain first rest) = first ++ joined rest
number_layer mesh slots _ = []

abbrev pub number_link_layer : NumberLink-F (List Access) (List Access) → List Access
number_link_layer l = l.arg

abbrev pub number_accesses : MeshLists → Slots → NumberCode → List Access
number_accesses mesh slots code = fold-NumberCode (List Access) (List Access) (number_layer mesh slots) number_link_layer code

abbrev pub number_link_accesses : MeshLists → Slots → NumberLink → List Access
number_link_accesses mesh slots l = fold-NumberLink (List Access) (List Access) (number_layer mesh slots) number_link_layer l

abbrev pub truth_layer : MeshLists → Slots → TruthCode-F (List Access) (List Access) → List Access
truth_layer mesh slots (TruthCode-F.Not arg) = arg
truth_layer mesh slots (TruthCode-F.Chain first rest) = first ++ joined rest
truth_layer mesh slots (TruthCode-F.CompareNumbers rel left right) = number_accesses mesh slots left ++ number_accesses mesh slots right
truth_layer mesh slots _ = []

abbrev pub truth_link_layer : TruthLink-F (List Access) (List Access) → List Access
truth_link_layer l = l.arg

abbrev pub truth_accesses : MeshLists → Slots → TruthCode → List Access
truth_accesses mesh slots code = fold-TruthCode (List Access) (List Access) (truth_layer mesh slots) truth_link_layer code

abbrev pub truth_link_accesses : MeshLists → Slots → TruthLink → List Access
truth_link_accesses mesh slots l = fold-TruthLink (List Access) (List Access) (truth_layer mesh slots) truth_link_layer l

abbrev pub total : List ℕ → ℕ
total [] = 0
total (n ∷ rest) = n + total rest

abbrev pub number_visits_layer : NumberCode-F ℕ ℕ → ℕ
number_visits_layer (NumberCode-F.Field place field arg) = 1 + element_visits arg
number_visits_layer (NumberCode-F.Id place arg) = 1 + element_visits arg
number_visits_layer (NumberCode-F.Neg place n) = 1 + n
number_visits_layer (NumberCode-F.Chain first rest) = 1 + first + total rest
number_visits_layer _ = 1

abbrev pub number_link_visits : NumberLink-F ℕ ℕ → ℕ
number_link_visits l = l.arg

abbrev pub number_visits : NumberCode → ℕ
number_visits code = fold-NumberCode ℕ ℕ number_visits_layer number_link_visits code

abbrev pub visits_of_number_link : NumberLink → ℕ
visits_of_number_link l = fold-NumberLink ℕ ℕ number_visits_layer number_link_visits l

abbrev pub truth_visits_layer : TruthCode-F ℕ ℕ → ℕ
truth_visits_layer (TruthCode-F.Valid arg) = 1 + element_visits arg
truth_visits_layer (TruthCode-F.Not n) = 1 + n
truth_visits_layer (TruthCode-F.Chain first rest) = 1 + first + total rest
truth_visits_layer (TruthCode-F.CompareNumbers rel left right) = 1 + number_visits left + number_visits right
truth_visits_layer (TruthCode-F.CompareElements is_equal left right) = 1 + element_visits left + element_visits right

abbrev pub truth_link_visits : TruthLink-F ℕ ℕ → ℕ
truth_link_visits l = l.arg

abbrev pub truth_visits : TruthCode → ℕ
truth_visits code = fold-TruthCode ℕ ℕ truth_visits_layer truth_link_visits code

abbrev pub visits_of_truth_link : TruthLink → ℕ
visits_of_truth_link l = fold-TruthLink ℕ ℕ truth_visits_layer truth_link_visits l

-- A WALK through statements: the accesses and the visits, and the slots afterwards
pub record Walk : Type 0 where
  pub accesses : List Access
  pub visits : ℕ
  pub slots : Slots

abbrev pub no_walk : Slots → Walk
no_walk slots = record { accesses = []; visits = 0; slots = slots }

abbrev pub and_then : Walk → (Slots → Walk) → Walk
and_then first next =
    record {
      accesses = first.accesses ++ (next first.slots).accesses;
      visits = first.visits + (next first.slots).visits;
      slots = (next first.slots).slots;
    }

abbrev pub body_walk : List (Slots → Walk) → Slots → Walk
body_walk [] slots = no_walk slots
body_walk (walk ∷ rest) slots = and_then (walk slots) (body_walk rest)

-- the members of a set, each in the slot; of nil there are none
abbrev pub members_walk : ℕ → (Slots → Walk) → List Elem → Slots → Walk
members_walk slot body [] slots = no_walk slots
members_walk slot body (x ∷ xs) slots =
    and_then (and_then (record { accesses = []; visits = 1; slots = slice_set slots slot (Some x) }) body) (members_walk slot body xs)

abbrev pub over_nil : (Elem → List Elem) → Option Elem → List Elem
over_nil set None = []
over_nil set (Some x) = set x

abbrev pub statement_layer : MeshLists → StatementCode-F (Slots → Walk) → Slots → Walk
statement_layer mesh (StatementCode-F.Var slot init) slots =
    record { accesses = number_accesses mesh slots init; visits = 1 + number_visits init; slots = slots }
statement_layer mesh (StatementCode-F.Val slot init) slots =
    record { accesses = []; visits = 1 + element_visits init; slots = slice_set slots slot (element_of mesh slots init) }
statement_layer mesh (StatementCode-F.Local slot how value) slots =
    record { accesses = number_accesses mesh slots value; visits = 1 + number_visits value; slots = slots }
statement_layer mesh (StatementCode-F.Scalar scalar how value) slots =
    record { accesses = number_accesses mesh slots value; visits = 1 + number_visits value; slots = slots }
statement_layer mesh (StatementCode-F.Field place field how target value) slots =
    record {
      accesses = number_accesses mesh slots value ++ at_element (mode_by how) field (element_of mesh slots target);
      visits = 1 + number_visits value + element_visits target;
      slots = slots;
    }
statement_layer mesh (StatementCode-F.If test first second) slots =
    and_then (and_then (record { accesses = truth_accesses mesh slots test; visits = 1 + truth_visits test; slots = slots }) (body_walk first)) (body_walk second)
statement_layer mesh (StatementCode-F.While place test body) slots =
    and_then (record { accesses = truth_accesses mesh slots test; visits = 1 + truth_visits test; slots = slots }) (body_walk body)
statement_layer mesh (StatementCode-F.For slot set place arg body) slots =
    and_then (record { accesses = []; visits = 1 + element_visits arg; slots = slots })
    (members_walk slot (body_walk body) (over_nil (members mesh set) (element_of mesh slots arg)))

abbrev pub statement_walk : MeshLists → StatementCode → Slots → Walk
statement_walk mesh code = fold-StatementCode (Slots → Walk) (statement_layer mesh) code

abbrev pub code_walk : MeshLists → List StatementCode → Slots → Walk
code_walk mesh codes = body_walk (map (statement_walk mesh) codes)

-- KINDS of element expressions by those of the slots, if each operator has an operand of its kind
abbrev pub call_kind : ElementFun → Option Kind → Option Kind
call_kind Head (Some Edge) = Some Vertex
call_kind Tail (Some Edge) = Some Vertex
call_kind Inside (Some Face) = Some Cell
call_kind Outside (Some Face) = Some Cell
call_kind Flip (Some Edge) = Some Edge
call_kind Flip (Some Face) = Some Face
call_kind _ _ = None

abbrev pub towards_kind : Option Kind → Option Kind → Option Kind
towards_kind (Some Edge) (Some Vertex) = Some Edge
towards_kind (Some Face) (Some Cell) = Some Face
towards_kind _ _ = None

abbrev pub kind_layer : List Kind → ElementCode-F (Option Kind) → Option Kind
kind_layer kinds (ElementCode-F.Slot slot) = slice_get kinds slot
kind_layer kinds (ElementCode-F.Call fun kind) = call_kind fun kind
kind_layer kinds (ElementCode-F.Towards kind to) = towards_kind kind to

abbrev pub kind_of : List Kind → ElementCode → Option Kind
kind_of kinds code = fold-ElementCode (Option Kind) (kind_layer kinds) code

-- slots with nil or an element of their kind
pub record SlotsFit (mesh : MeshLists) (kinds : List Kind) (slots : Slots) : Type 0 where
  pub long : length slots ≡ length kinds
  pub each : (slot : ℕ) (kind : Kind) → slice_get kinds slot ≡ Some kind → IsNilOrElement mesh kind (in_slot slots slot)

-- CODE FITS the kinds of the slots if each element expression in it has a kind, each slot gets an element of its kind, and each set is one
-- of its operand.
abbrev pub all_fit : List Bool → Bool
all_fit [] = true
all_fit (fits ∷ rest) = fits && all_fit rest

abbrev pub has_kind : List Kind → ElementCode → Bool
has_kind kinds code = is_some (kind_of kinds code)

abbrev pub number_fits_layer : List Kind → NumberCode-F Bool Bool → Bool
number_fits_layer kinds (NumberCode-F.Field place field arg) = has_kind kinds arg
number_fits_layer kinds (NumberCode-F.Id place arg) = has_kind kinds arg
number_fits_layer kinds (NumberCode-F.Neg place arg) = arg
number_fits_layer kinds (NumberCode-F.Chain first rest) = first && all_fit rest
number_fits_layer kinds _ = true

abbrev pub number_link_fits : NumberLink-F Bool Bool → Bool
number_link_fits l = l.arg

abbrev pub number_fits : List Kind → NumberCode → Bool
number_fits kinds code = fold-NumberCode Bool Bool (number_fits_layer kinds) number_link_fits code

abbrev pub fits_of_number_link : List Kind → NumberLink → Bool
fits_of_number_link kinds l = fold-NumberLink Bool Bool (number_fits_layer kinds) number_link_fits l

abbrev pub truth_fits_layer : List Kind → TruthCode-F Bool Bool → Bool
truth_fits_layer kinds (TruthCode-F.Valid arg) = has_kind kinds arg
truth_fits_layer kinds (TruthCode-F.Not arg) = arg
truth_fits_layer kinds (TruthCode-F.Chain first rest) = first && all_fit rest
truth_fits_layer kinds (TruthCode-F.CompareNumbers rel left right) = number_fits kinds left && number_fits kinds right
truth_fits_layer kinds (TruthCode-F.CompareElements is_equal left right) = has_kind kinds left && has_kind kinds right

abbrev pub truth_link_fits : TruthLink-F Bool Bool → Bool
truth_link_fits l = l.arg

abbrev pub truth_fits : List Kind → TruthCode → Bool
truth_fits kinds code = fold-TruthCode Bool Bool (truth_fits_layer kinds) truth_link_fits code

abbrev pub fits_of_truth_link : List Kind → TruthLink → Bool
fits_of_truth_link kinds l = fold-TruthLink Bool Bool (truth_fits_layer kinds) truth_link_fits l

abbrev pub are_same_kind : Option Kind → Option Kind → Bool
are_same_kind (Some kind) (Some other) = is_kind kind other
are_same_kind _ _ = false

abbrev pub may_have_set : SetName → Option Kind → Bool
may_have_set set (Some kind) = has_set kind set
may_have_set set None = false

abbrev pub statement_fits_layer : List Kind → StatementCode-F Bool → Bool
statement_fits_layer kinds (StatementCode-F.Var slot init) = number_fits kinds init
statement_fits_layer kinds (StatementCode-F.Val slot init) = are_same_kind (slice_get kinds slot) (kind_of kinds init)
statement_fits_layer kinds (StatementCode-F.Local slot how value) = number_fits kinds value
statement_fits_layer kinds (StatementCode-F.Scalar scalar how value) = number_fits kinds value
statement_fits_layer kinds (StatementCode-F.Field place field how target value) = number_fits kinds value && has_kind kinds target
statement_fits_layer kinds (StatementCode-F.If test first second) = truth_fits kinds test && (all_fit first && all_fit second)
statement_fits_layer kinds (StatementCode-F.While place test body) = truth_fits kinds test && all_fit body
statement_fits_layer kinds (StatementCode-F.For slot set place arg body) =
    may_have_set set (kind_of kinds arg) && (are_same_kind (slice_get kinds slot) (Some (kind_of_set set)) && all_fit body)

abbrev pub statement_fits : List Kind → StatementCode → Bool
statement_fits kinds code = fold-StatementCode Bool (statement_fits_layer kinds) code

abbrev pub code_fits : List Kind → List StatementCode → Bool
code_fits kinds codes = all_fit (map (statement_fits kinds) codes)

-- an element that may be put in a slot
abbrev pub FitsSlot : MeshLists → List Kind → ℕ → Elem → Type 0
FitsSlot mesh kinds slot x = (kind : Kind) → slice_get kinds slot ≡ Some kind → IsNilOrElement mesh kind (Some x)
