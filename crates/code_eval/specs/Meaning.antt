-- What resolved code means: each form as the tree from which it was resolved, over slots in place of names. This project's own.
use Rattle.std.specs.Prelude.{ℕ, ◌&&◌, ◌||◌, nat_lt, not, Bool, true, if◌then◌else◌, Option, Some, None, List, [], ◌∷◌, map, get_or, ℤ, pos, neg_ℤ, Result, Ok, Err}
use Rattle.std.specs.List.{slice_set}
use Rattle.std.specs.Option.{option_and_then}
use Rattle.liszt_base.specs.Kinds.{is_kind, has_set}
use Rattle.liszt_base.specs.MeshLists.{MeshLists}
use Rattle.liszt_base.specs.declared.accesses.Mode.TheVariants.{Read}
use Rattle.liszt_base.specs.declared.accesses.Spot.{Spot}
use Rattle.liszt_base.specs.declared.answers.Place.{Place}
use Rattle.liszt_base.specs.declared.answers.TrapKind.{TrapKind}
use Rattle.liszt_base.specs.declared.answers.TrapKind.TheVariants.{NilElement, Spent}
use Rattle.liszt_base.specs.declared.elements.Elem.{Elem}
use Rattle.liszt_base.specs.declared.elements.Kind.{Kind}
use Rattle.liszt_base.specs.declared.elements.Kind.TheVariants.{Vertex, Edge, Face, Cell}
use Rattle.liszt_base.specs.declared.elements.SetName.{SetName}
use Rattle.liszt_tree.specs.declared.tree.How.{How}
use Rattle.mesh_topology.specs.Elements.{count}
use Rattle.topo_operators.specs.Operators.{head, tail, inside, outside, flip, towards, same, valid, members}
use Rattle.phase_types.specs.Environments.{is_built_in}
use Rattle.phase_types.specs.Walk.{mode_by}
use Rattle.resolved_code.specs.declared.expressions.Arithmetic.{Arithmetic}
use Rattle.resolved_code.specs.declared.expressions.Connective.{Connective}
use Rattle.resolved_code.specs.declared.expressions.Connective.TheVariants.{Or, And}
use Rattle.resolved_code.specs.declared.expressions.ElementCode.{ElementCode, fold-ElementCode}
use Rattle.resolved_code.specs.declared.expressions.ElementCode.TheOpen.{ElementCode-F}
use Rattle.resolved_code.specs.declared.expressions.ElementFun.{ElementFun}
use Rattle.resolved_code.specs.declared.expressions.ElementFun.TheVariants.{Head, Tail, Inside, Outside, Flip}
use Rattle.resolved_code.specs.declared.expressions.NumberCode.{NumberCode, fold-NumberCode}
use Rattle.resolved_code.specs.declared.expressions.NumberCode.TheOpen.{NumberCode-F, NumberLink-F}
use Rattle.resolved_code.specs.declared.expressions.NumberLink.{NumberLink}
use Rattle.resolved_code.specs.declared.expressions.TruthCode.{TruthCode, fold-TruthCode}
use Rattle.resolved_code.specs.declared.expressions.TruthCode.TheOpen.{TruthCode-F, TruthLink-F}
use Rattle.resolved_code.specs.declared.expressions.TruthLink.{TruthLink}
use Rattle.resolved_code.specs.declared.statements.StatementCode.{StatementCode, fold-StatementCode}
use Rattle.resolved_code.specs.declared.statements.StatementCode.TheOpen.{StatementCode-F}
use Rattle.code_eval.specs.Arithmetic.{in_range, arithmetic_result, holds, operand, assigned_value, built_in_value, spot_of}
use Rattle.code_eval.specs.Executions.{Activation, Execution, Done, pure, no_meaning, modify, trap, act, ◌>>=◌, ◌>>◌, if_then_else, for_each, in_turn, loop}

-- ELEMENTS, from the element slots. An operator of an element that is not of its operand's kind, or not of the mesh, has no meaning.
abbrev pub is_operand : MeshLists → Kind → Option Elem → Bool
is_operand mesh kind None = true
is_operand mesh kind (Some x) = is_kind x.kind kind && nat_lt x.id (count mesh kind)

abbrev pub given : {A : Type 0} → Bool → A → Option A
given condition value = if condition then Some value else None

abbrev pub element_call : MeshLists → ElementFun → Option Elem → Option (Option Elem)
element_call mesh Head x = given (is_operand mesh Edge x) (head mesh x)
element_call mesh Tail x = given (is_operand mesh Edge x) (tail mesh x)
element_call mesh Inside x = given (is_operand mesh Face x) (inside mesh x)
element_call mesh Outside x = given (is_operand mesh Face x) (outside mesh x)
element_call mesh Flip x = Some (flip x)

abbrev pub are_towards_operands : MeshLists → Option Elem → Option Elem → Bool
are_towards_operands mesh x to =
    (is_operand mesh Edge x && is_operand mesh Vertex to) || (is_operand mesh Face x && is_operand mesh Cell to)

abbrev pub towards_call : MeshLists → Option Elem → Option Elem → Option (Option Elem)
towards_call mesh x to = given (are_towards_operands mesh x to) (towards mesh x to)

abbrev pub element_layer : MeshLists → List (Option Elem) → ElementCode-F (Option (Option Elem)) → Option (Option Elem)
element_layer mesh elements (ElementCode-F.Slot slot) = Some (get_or elements slot None)
element_layer mesh elements (ElementCode-F.Call fun arg) = option_and_then (element_call mesh fun) arg
element_layer mesh elements (ElementCode-F.Towards arg to) = option_and_then (λ x. option_and_then (towards_call mesh x) to) arg

abbrev pub element_value : MeshLists → List (Option Elem) → ElementCode → Option (Option Elem)
element_value mesh elements e = fold-ElementCode (Option (Option Elem)) (element_layer mesh elements) e

abbrev pub meant : {A : Type 0} → Option A → Execution A
meant None = no_meaning
meant (Some value) = pure value

abbrev pub element_execution : MeshLists → ElementCode → Execution (Option Elem)
element_execution mesh e view a = meant (element_value mesh a.elements e) view a

-- NUMBERS
abbrev pub number_or_trap : Place → Result ℤ TrapKind → Execution ℤ
number_or_trap place (Ok n) = pure n
number_or_trap place (Err kind) = trap kind place

abbrev pub operator_result : Arithmetic → Place → ℤ → ℤ → Execution ℤ
operator_result op place a b = number_or_trap place (arithmetic_result op a b)

abbrev pub read_value : Spot → ℤ → Execution ℤ
read_value spot n = act (record { spot = spot; mode = Read; value = n }) n

abbrev pub built_in_read : Spot → Option ℤ → Execution ℤ
built_in_read spot None = no_meaning
built_in_read spot (Some n) = read_value spot n

abbrev pub spot_read : MeshLists → Spot → Execution ℤ
spot_read mesh spot =
    if is_built_in spot.field then built_in_read spot (built_in_value mesh spot) else λ view a. read_value spot (view spot) view a

abbrev pub field_read : MeshLists → Place → ℕ → Option Elem → Execution ℤ
field_read mesh place field None = trap NilElement place
field_read mesh place field (Some x) = spot_read mesh (spot_of field x)

abbrev pub id_result : Place → Option Elem → Execution ℤ
id_result place None = trap NilElement place
id_result place (Some x) = pure (pos x.id)

abbrev pub NumberOperand : Type 0
NumberOperand = Arithmetic × Place × Execution ℤ

abbrev pub number_rest : ℤ → List NumberOperand → Execution ℤ
number_rest n [] = pure n
number_rest n (operand ∷ rest) = (operand.2 >>= λ k. operator_result operand.0 operand.1 n k) >>= λ u. number_rest u rest

abbrev pub number_layer : MeshLists → NumberCode-F (Execution ℤ) NumberOperand → Execution ℤ
number_layer mesh (NumberCode-F.Constant value) = pure value
number_layer mesh (NumberCode-F.Local slot) = λ view a. pure (get_or a.numbers slot (pos 0)) view a
number_layer mesh (NumberCode-F.Scalar scalar) = λ view a. pure (get_or a.scalars scalar (pos 0)) view a
number_layer mesh (NumberCode-F.Field place field arg) = element_execution mesh arg >>= λ x. field_read mesh place field x
number_layer mesh (NumberCode-F.Id place arg) = element_execution mesh arg >>= λ x. id_result place x
number_layer mesh (NumberCode-F.Neg place arg) = arg >>= λ n. number_or_trap place (in_range (neg_ℤ n))
number_layer mesh (NumberCode-F.Chain first rest) = first >>= λ n. number_rest n rest

abbrev pub number_link : NumberLink-F (Execution ℤ) NumberOperand → NumberOperand
number_link l = (l.op, l.place, l.arg)

abbrev pub number_execution : MeshLists → NumberCode → Execution ℤ
number_execution mesh e = fold-NumberCode (Execution ℤ) NumberOperand (number_layer mesh) number_link e

abbrev pub number_operand : MeshLists → NumberLink → NumberOperand
number_operand mesh l = (l.op, l.place, number_execution mesh l.arg)

-- TRUTH VALUES. `||` skips its further operands once the value is true, and `&&` once it is false.
abbrev pub TruthOperand : Type 0
TruthOperand = Connective × Execution Bool

abbrev pub is_decided : Connective → Bool → Bool
is_decided Or b = b
is_decided And b = not b

abbrev pub connected : Connective → Bool → Execution Bool → Execution Bool
connected op b next = if_then_else (is_decided op b) (pure b) next

abbrev pub truth_rest : Bool → List TruthOperand → Execution Bool
truth_rest b [] = pure b
truth_rest b (operand ∷ rest) = connected operand.0 b operand.1 >>= λ u. truth_rest u rest

abbrev pub is_as_required : Bool → Bool → Bool
is_as_required is_equal are_same = if is_equal then are_same else not are_same

abbrev pub truth_layer : MeshLists → TruthCode-F (Execution Bool) TruthOperand → Execution Bool
truth_layer mesh (TruthCode-F.Valid arg) = element_execution mesh arg >>= λ x. pure (valid x)
truth_layer mesh (TruthCode-F.Not arg) = arg >>= λ b. pure (not b)
truth_layer mesh (TruthCode-F.Chain first rest) = first >>= λ b. truth_rest b rest
truth_layer mesh (TruthCode-F.CompareNumbers rel left right) =
    number_execution mesh left >>= λ a. number_execution mesh right >>= λ b. pure (holds rel a b)
truth_layer mesh (TruthCode-F.CompareElements is_equal left right) =
    element_execution mesh left >>= λ x. element_execution mesh right >>= λ y. pure (is_as_required is_equal (same x y))

abbrev pub truth_link : TruthLink-F (Execution Bool) TruthOperand → TruthOperand
truth_link l = (l.op, l.arg)

abbrev pub truth_execution : MeshLists → TruthCode → Execution Bool
truth_execution mesh e = fold-TruthCode (Execution Bool) TruthOperand (truth_layer mesh) truth_link e

abbrev pub truth_operand : MeshLists → TruthLink → TruthOperand
truth_operand mesh l = (l.op, truth_execution mesh l.arg)

-- STATEMENTS
abbrev pub with_number : ℕ → ℤ → Activation → Activation
with_number slot n a = record a { numbers = slice_set a.numbers slot n }

abbrev pub with_element : ℕ → Option Elem → Activation → Activation
with_element slot x a = record a { elements = slice_set a.elements slot x }

abbrev pub with_partial : ℕ → ℤ → Activation → Activation
with_partial scalar n a = record a { partials = slice_set a.partials scalar n }

abbrev pub assign_local : ℕ → How → ℤ → Execution Done
assign_local slot how n = modify (λ a. with_number slot (assigned_value how (get_or a.numbers slot (pos 0)) n) a)

abbrev pub assign_scalar : ℕ → How → ℤ → Execution Done
assign_scalar scalar how n = modify (λ a. with_partial scalar (assigned_value how (get_or a.partials scalar (pos 0)) n) a)

abbrev pub assign_field : Place → ℕ → How → ℤ → Option Elem → Execution Done
assign_field place field how n None = trap NilElement place
assign_field place field how n (Some x) = act (record { spot = spot_of field x; mode = mode_by how; value = operand how n }) (tt {0})

abbrev pub set_members : MeshLists → SetName → Elem → Option (List Elem)
set_members mesh set x = given (nat_lt x.id (count mesh x.kind) && has_set x.kind set) (members mesh set x)

abbrev pub visit : ℕ → Execution Done → Elem → Execution Done
visit slot body x = modify (with_element slot (Some x)) >> body

abbrev pub visit_members : ℕ → Execution Done → Option (List Elem) → Execution Done
visit_members slot body None = no_meaning
visit_members slot body (Some xs) = for_each (visit slot body) xs

abbrev pub visit_set : MeshLists → ℕ → SetName → Place → Execution Done → Option Elem → Execution Done
visit_set mesh slot set place body None = trap NilElement place
visit_set mesh slot set place body (Some x) = visit_members slot body (set_members mesh set x)

abbrev pub statement_layer : MeshLists → StatementCode-F (Execution Done) → Execution Done
statement_layer mesh (StatementCode-F.Var slot init) = number_execution mesh init >>= λ n. modify (with_number slot n)
statement_layer mesh (StatementCode-F.Val slot init) = element_execution mesh init >>= λ x. modify (with_element slot x)
statement_layer mesh (StatementCode-F.Local slot how value) = number_execution mesh value >>= λ n. assign_local slot how n
statement_layer mesh (StatementCode-F.Scalar scalar how value) = number_execution mesh value >>= λ n. assign_scalar scalar how n
statement_layer mesh (StatementCode-F.Field place field how target value) =
    number_execution mesh value >>= λ n. element_execution mesh target >>= λ x. assign_field place field how n x
statement_layer mesh (StatementCode-F.If test first second) =
    truth_execution mesh test >>= λ b. if_then_else b (in_turn first) (in_turn second)
statement_layer mesh (StatementCode-F.While place test body) = loop (trap Spent place) (truth_execution mesh test) (in_turn body)
statement_layer mesh (StatementCode-F.For slot set place arg body) =
    element_execution mesh arg >>= λ x. visit_set mesh slot set place (in_turn body) x

abbrev pub statement_execution : MeshLists → StatementCode → Execution Done
statement_execution mesh s = fold-StatementCode (Execution Done) (statement_layer mesh) s

abbrev pub body_execution : MeshLists → List StatementCode → Execution Done
body_execution mesh body = in_turn (map (statement_execution mesh) body)
