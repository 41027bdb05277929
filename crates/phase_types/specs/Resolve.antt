-- Resolved programs: the code of each part of a program, or its first fault, in the order of the walk. This project's own.
use Rattle.std.specs.Prelude.{ℕ, ◌+◌, ◌&&◌, Bool, true, false, if◌then◌else◌, Option, Some, None, List, [], ◌∷◌, ◌++◌, length, Result, Ok, Err}
use Rattle.std.specs.Str.{bytes_eq}
use Rattle.liszt_base.specs.Kinds.{is_kind, has_set, kind_of}
use Rattle.liszt_base.specs.declared.accesses.Mode.{Mode}
use Rattle.liszt_base.specs.declared.accesses.Mode.TheVariants.{Read}
use Rattle.liszt_base.specs.declared.answers.Place.{Place}
use Rattle.liszt_base.specs.declared.answers.ProgramFault.{ProgramFault}
use Rattle.liszt_base.specs.declared.answers.ProgramWhat.{ProgramWhat}
use Rattle.liszt_base.specs.declared.answers.ProgramWhat.TheVariants.{NameUnknown, NameTwice, TypeMismatch, PhaseConflict, ScalarWrite, BuiltinWrite}
use Rattle.liszt_base.specs.declared.elements.Kind.{Kind}
use Rattle.liszt_base.specs.declared.elements.Kind.TheVariants.{Vertex, Edge, Face, Cell}
use Rattle.liszt_base.specs.declared.elements.SetName.{SetName}
use Rattle.liszt_tree.specs.declared.tree.Fun.{Fun}
use Rattle.liszt_tree.specs.declared.tree.Fun.TheVariants.{Head, Tail, Inside, Outside, Flip, Valid, Id}
use Rattle.liszt_tree.specs.declared.tree.How.{How}
use Rattle.liszt_tree.specs.declared.tree.How.TheVariants.{Set}
use Rattle.liszt_tree.specs.declared.tree.Rel.{Rel}
use Rattle.liszt_tree.specs.declared.tree.Rel.TheVariants.{Same}
use Rattle.liszt_tree.specs.declared.tree.Sign.{Sign}
use Rattle.liszt_tree.specs.declared.tree.Sign.TheVariants as sign
use Rattle.liszt_tree.specs.Tree.{Expression, Number, Name, Field, Call, Towards, Neg, Not, Chain, Compare, Links, no_links, link}
use Rattle.liszt_tree.specs.Tree.{Statement, Var, Val, Assign, If, While, For, Body, no_statement, statement}
use Rattle.resolved_code.specs.declared.expressions.Arithmetic.{Arithmetic}
use Rattle.resolved_code.specs.declared.expressions.Arithmetic.TheVariants as arithmetic
use Rattle.resolved_code.specs.declared.expressions.Connective.{Connective}
use Rattle.resolved_code.specs.declared.expressions.Connective.TheVariants as connective
use Rattle.resolved_code.specs.declared.expressions.ElementCode.{ElementCode}
use Rattle.resolved_code.specs.declared.expressions.ElementCode.TheVariants as element
use Rattle.resolved_code.specs.declared.expressions.ElementFun.TheVariants as function
use Rattle.resolved_code.specs.declared.expressions.NumberCode.{NumberCode}
use Rattle.resolved_code.specs.declared.expressions.NumberCode.TheVariants as number
use Rattle.resolved_code.specs.declared.expressions.NumberLink.{NumberLink}
use Rattle.resolved_code.specs.declared.expressions.TruthCode.{TruthCode}
use Rattle.resolved_code.specs.declared.expressions.TruthCode.TheVariants as truth
use Rattle.resolved_code.specs.declared.expressions.TruthLink.{TruthLink}
use Rattle.resolved_code.specs.declared.items.ComprehensionCode.{ComprehensionCode}
use Rattle.resolved_code.specs.declared.statements.StatementCode.{StatementCode}
use Rattle.resolved_code.specs.declared.statements.StatementCode.TheVariants as code
pub use Rattle.resolved_code.specs.Accesses.{first_access}
pub use Rattle.phase_types.specs.declared.frame.Frame.{Frame}
use Rattle.phase_types.specs.declared.resolution.ChainCode.{ChainCode}
use Rattle.phase_types.specs.declared.resolution.ChainCode.TheVariants as chain
use Rattle.phase_types.specs.declared.resolution.Resolution.{Resolution}
use Rattle.phase_types.specs.declared.resolution.Resolution.TheVariants as resolution
use Rattle.phase_types.specs.declared.resolution.TypedCode.{TypedCode}
use Rattle.phase_types.specs.declared.resolution.TypedCode.TheVariants as typed
use Rattle.phase_types.specs.Environments.{lookup, is_built_in}
use Rattle.phase_types.specs.Types.{are_towards_kinds, is_sameness}
use Rattle.phase_types.specs.Walk.{Subject, OfField, OfScalar, AccessAt, is_mode, mode_by, fault_at, place_of}

-- the second step, if the first has no fault
infixl 10 ◌>>=◌
abbrev pub ◌>>=◌ : {A B : Type 0} → Result A ProgramFault → (A → Result B ProgramFault) → Result B ProgramFault
Ok value >>= next = next value
Err fault >>= next = Err fault

abbrev pub fails : {A : Type 0} → ProgramWhat → Place → Result A ProgramFault
fails what place = Err (fault_at what place)

abbrev pub passes_if : Bool → ProgramWhat → Place → Result (Unit {0}) ProgramFault
passes_if true what place = Ok tt
passes_if false what place = fails what place

-- THE VISIBLE NAMES with what they denote, in the order of their declarations
abbrev pub Names : Type 0
Names = List (List ℕ × Resolution)

abbrev pub resolution_of : Names → List ℕ → Option Resolution
resolution_of names name = lookup (bytes_eq name) names

abbrev pub new_name : Option Resolution → Place → Result (Unit {0}) ProgramFault
new_name None at = Ok tt
new_name (Some other) at = fails NameTwice at

-- THE FIRST ACCESSES of a comprehension so far, one to each field or scalar that it accesses; the main program has none. An access in
-- another mode than the first one is a conflict.
abbrev pub Accesses : Type 0
Accesses = Option (List AccessAt)

abbrev pub conflict_between : Place → Place → ProgramFault
conflict_between place first = record { what = PhaseConflict; place = place; first = Some first }

abbrev pub after_first : List AccessAt → AccessAt → Option AccessAt → Result Accesses ProgramFault
after_first accesses access None = Ok (Some (accesses ++ access ∷ []))
after_first accesses access (Some first) =
    if is_mode access.mode first.mode then Ok (Some accesses) else Err (conflict_between access.place first.place)

abbrev pub with_access : Accesses → Subject → Mode → Place → Result Accesses ProgramFault
with_access None subject mode place = Ok None
with_access (Some accesses) subject mode place =
    after_first accesses (record { subject = subject; mode = mode; place = place }) (first_access accesses subject)

-- VALUES of the expected type, or a type mismatch at a place
abbrev pub number_in : Place → TypedCode → Result NumberCode ProgramFault
number_in place (typed.Number value) = Ok value
number_in place _ = fails TypeMismatch place

abbrev pub truth_in : Place → TypedCode → Result TruthCode ProgramFault
truth_in place (typed.Truth value) = Ok value
truth_in place _ = fails TypeMismatch place

abbrev pub element_in : Place → TypedCode → Result (Kind × ElementCode) ProgramFault
element_in place (typed.Element kind value) = Ok (kind, value)
element_in place _ = fails TypeMismatch place

abbrev pub element_of_kind : Kind → Place → TypedCode → Result ElementCode ProgramFault
element_of_kind kind place (typed.Element other value) = if is_kind kind other then Ok value else fails TypeMismatch place
element_of_kind kind place _ = fails TypeMismatch place

abbrev pub element_with_set : SetName → Place → TypedCode → Result ElementCode ProgramFault
element_with_set set place (typed.Element kind value) = if has_set kind set then Ok value else fails TypeMismatch place
element_with_set set place _ = fails TypeMismatch place

-- A NAME, and the field of a name with an argument
abbrev pub resolved_name : Place → Accesses → Option Resolution → Result (TypedCode × Accesses) ProgramFault
resolved_name place accesses None = fails NameUnknown place
resolved_name place accesses (Some (resolution.Field field kind)) = fails TypeMismatch place
resolved_name place accesses (Some (resolution.Scalar scalar)) = do
  later ← with_access accesses (OfScalar scalar) Read place
  Ok (typed.Number (number.Scalar scalar), later)
resolved_name place accesses (Some (resolution.Number slot)) = Ok (typed.Number (number.Local slot), accesses)
resolved_name place accesses (Some (resolution.Element slot kind)) = Ok (typed.Element kind (element.Slot slot), accesses)

abbrev pub named_field : Place → Option Resolution → Result (ℕ × Kind) ProgramFault
named_field place None = fails NameUnknown place
named_field place (Some (resolution.Field field kind)) = Ok (field, kind)
named_field place (Some other) = fails TypeMismatch place

-- CALLS and operators of resolved operands
abbrev pub call_code : Place → Fun → Kind → ElementCode → Result TypedCode ProgramFault
call_code place Head Edge arg = Ok (typed.Element Vertex (element.Call function.Head arg))
call_code place Tail Edge arg = Ok (typed.Element Vertex (element.Call function.Tail arg))
call_code place Inside Face arg = Ok (typed.Element Cell (element.Call function.Inside arg))
call_code place Outside Face arg = Ok (typed.Element Cell (element.Call function.Outside arg))
call_code place Flip Edge arg = Ok (typed.Element Edge (element.Call function.Flip arg))
call_code place Flip Face arg = Ok (typed.Element Face (element.Call function.Flip arg))
call_code place Valid kind arg = Ok (typed.Truth (truth.Valid arg))
call_code place Id kind arg = Ok (typed.Number (number.Id place arg))
call_code place _ _ arg = fails TypeMismatch place

abbrev pub called_code : Place → Fun → TypedCode → Result TypedCode ProgramFault
called_code place fun (typed.Element kind arg) = call_code place fun kind arg
called_code place fun _ = fails TypeMismatch place

abbrev pub towards_code : Place → TypedCode → TypedCode → Result TypedCode ProgramFault
towards_code place (typed.Element kind arg) (typed.Element other to) =
    if are_towards_kinds kind other then Ok (typed.Element kind (element.Towards arg to)) else fails TypeMismatch place
towards_code place _ _ = fails TypeMismatch place

abbrev pub is_equality : Rel → Bool
is_equality Same = true
is_equality _ = false

abbrev pub comparison_code : Place → Rel → TypedCode → TypedCode → Result TypedCode ProgramFault
comparison_code place rel (typed.Number left) (typed.Number right) = Ok (typed.Truth (truth.CompareNumbers rel left right))
comparison_code place rel (typed.Element kind left) (typed.Element other right) =
    if is_sameness rel && is_kind kind other then Ok (typed.Truth (truth.CompareElements (is_equality rel) left right)) else fails TypeMismatch place
comparison_code place rel _ _ = fails TypeMismatch place

abbrev pub negated : Place → TypedCode → Result TypedCode ProgramFault
negated place operand = do
  value ← number_in place operand
  Ok (typed.Number (number.Neg place value))

abbrev pub inverted : Place → TypedCode → Result TypedCode ProgramFault
inverted place operand = do
  value ← truth_in place operand
  Ok (typed.Truth (truth.Not value))

-- the operators of chains, and their links. A chain without links is its first operand.
abbrev pub arithmetic_of : Sign → Option Arithmetic
arithmetic_of sign.Plus = Some arithmetic.Plus
arithmetic_of sign.Minus = Some arithmetic.Minus
arithmetic_of sign.Times = Some arithmetic.Times
arithmetic_of sign.Over = Some arithmetic.Over
arithmetic_of sign.Rest = Some arithmetic.Rest
arithmetic_of _ = None

abbrev pub connective_of : Sign → Option Connective
connective_of sign.Or = Some connective.Or
connective_of sign.And = Some connective.And
connective_of _ = None

abbrev pub number_link : Place → Option Arithmetic → NumberCode → Result NumberLink ProgramFault
number_link place (Some op) arg = Ok (record { op = op; place = place; arg = arg })
number_link place None arg = fails TypeMismatch place

abbrev pub truth_link : Place → Option Connective → TruthCode → Result TruthLink ProgramFault
truth_link place (Some op) arg = Ok (record { op = op; arg = arg })
truth_link place None arg = fails TypeMismatch place

abbrev pub number_operand : Place → Sign → TypedCode → Result NumberLink ProgramFault
number_operand place sign operand = do
  arg ← number_in place operand
  number_link place (arithmetic_of sign) arg

abbrev pub truth_operand : Place → Sign → TypedCode → Result TruthLink ProgramFault
truth_operand place sign operand = do
  arg ← truth_in place operand
  truth_link place (connective_of sign) arg

-- the start of a chain by its first operand, a chain with a further operand, and a whole chain
abbrev pub first_of_chain : TypedCode → ChainCode
first_of_chain (typed.Number value) = chain.Numbers value []
first_of_chain (typed.Truth value) = chain.Truths value []
first_of_chain (typed.Element kind value) = chain.Element kind value

abbrev pub extended_chain : Place → Sign → ChainCode → TypedCode → Result ChainCode ProgramFault
extended_chain place sign (chain.Numbers first rest) operand = do
  next ← number_operand place sign operand
  Ok (chain.Numbers first (rest ++ next ∷ []))
extended_chain place sign (chain.Truths first rest) operand = do
  next ← truth_operand place sign operand
  Ok (chain.Truths first (rest ++ next ∷ []))
extended_chain place sign (chain.Element kind value) operand = fails TypeMismatch place

abbrev pub number_chain : NumberCode → List NumberLink → NumberCode
number_chain first [] = first
number_chain first (l ∷ rest) = number.Chain first (l ∷ rest)

abbrev pub truth_chain : TruthCode → List TruthLink → TruthCode
truth_chain first [] = first
truth_chain first (l ∷ rest) = truth.Chain first (l ∷ rest)

abbrev pub whole_chain : ChainCode → TypedCode
whole_chain (chain.Numbers first rest) = typed.Number (number_chain first rest)
whole_chain (chain.Truths first rest) = typed.Truth (truth_chain first rest)
whole_chain (chain.Element kind value) = typed.Element kind value

-- EXPRESSIONS, with the accesses at entry and those after them. Of a chain the operands so far are given.
abbrev mutual
  pub resolved_expression : Names → Accesses → Expression → Result (TypedCode × Accesses) ProgramFault
  resolved_expression names accesses (Number place value) = Ok (typed.Number (number.Constant value), accesses)
  resolved_expression names accesses (Name place name) = resolved_name place accesses (resolution_of names name)
  resolved_expression names accesses (Field place name arg) = do
    field ← named_field place (resolution_of names name)
    operand ← resolved_expression names accesses arg
    target ← element_of_kind field.1 place operand.0
    later ← with_access operand.1 (OfField field.0) Read place
    Ok (typed.Number (number.Field place field.0 target), later)
  resolved_expression names accesses (Call place fun arg) = do
    operand ← resolved_expression names accesses arg
    call ← called_code place fun operand.0
    Ok (call, operand.1)
  resolved_expression names accesses (Towards place arg to) = do
    first ← resolved_expression names accesses arg
    second ← resolved_expression names first.1 to
    call ← towards_code place first.0 second.0
    Ok (call, second.1)
  resolved_expression names accesses (Neg place arg) = do
    operand ← resolved_expression names accesses arg
    value ← negated place operand.0
    Ok (value, operand.1)
  resolved_expression names accesses (Not place arg) = do
    operand ← resolved_expression names accesses arg
    value ← inverted place operand.0
    Ok (value, operand.1)
  resolved_expression names accesses (Chain level first links) = do
    operand ← resolved_expression names accesses first
    resolved_links names operand.1 (first_of_chain operand.0) links
  resolved_expression names accesses (Compare place rel left right) = do
    first ← resolved_expression names accesses left
    second ← resolved_expression names first.1 right
    test ← comparison_code place rel first.0 second.0
    Ok (test, second.1)

  pub resolved_links : Names → Accesses → ChainCode → Links → Result (TypedCode × Accesses) ProgramFault
  resolved_links names accesses done no_links = Ok (whole_chain done, accesses)
  resolved_links names accesses done (link sign place arg rest) = do
    operand ← resolved_expression names accesses arg
    next ← extended_chain place sign done operand.0
    resolved_links names operand.1 next rest

-- an expression that has to be a number, a truth value or an element
abbrev pub resolved_number : Names → Accesses → Expression → Result (NumberCode × Accesses) ProgramFault
resolved_number names accesses e = do
  operand ← resolved_expression names accesses e
  value ← number_in (place_of e) operand.0
  Ok (value, operand.1)

abbrev pub resolved_truth : Names → Accesses → Expression → Result (TruthCode × Accesses) ProgramFault
resolved_truth names accesses e = do
  operand ← resolved_expression names accesses e
  value ← truth_in (place_of e) operand.0
  Ok (value, operand.1)

abbrev pub resolved_element : Names → Accesses → Expression → Result ((Kind × ElementCode) × Accesses) ProgramFault
resolved_element names accesses e = do
  operand ← resolved_expression names accesses e
  value ← element_in (place_of e) operand.0
  Ok (value, operand.1)

-- A FRAME of a comprehension so far: the number of its number slots, the kinds of its element slots, and its accesses. Each declaration
-- has a slot of its own; after a block its names are no longer visible, and its slots remain.
abbrev pub with_accesses : Accesses → Frame → Frame
with_accesses accesses frame = record { numbers = frame.numbers; elements = frame.elements; accesses = accesses }

abbrev pub with_number : Frame → Frame
with_number frame = record { numbers = frame.numbers + 1; elements = frame.elements; accesses = frame.accesses }

abbrev pub with_element : Kind → Frame → Frame
with_element kind frame = record { numbers = frame.numbers; elements = frame.elements ++ kind ∷ []; accesses = frame.accesses }

abbrev pub number_name : List ℕ → Frame → List ℕ × Resolution
number_name name frame = (name, resolution.Number frame.numbers)

abbrev pub element_name : List ℕ → Kind → Frame → List ℕ × Resolution
element_name name kind frame = (name, resolution.Element (length frame.elements) kind)

-- THE TARGETS of assignments: the field of a name with an argument, and the access of a reduction of a scalar
abbrev pub assigned_field : Place → Option Resolution → Result (ℕ × Kind) ProgramFault
assigned_field place None = fails NameUnknown place
assigned_field place (Some (resolution.Field field kind)) = if is_built_in field then fails BuiltinWrite place else Ok (field, kind)
assigned_field place (Some other) = fails TypeMismatch place

abbrev pub with_reduction : Accesses → ℕ → How → Place → Result Accesses ProgramFault
with_reduction accesses scalar Set place = fails ScalarWrite place
with_reduction accesses scalar how place = with_access accesses (OfScalar scalar) (mode_by how) place

-- an assignment to a name without an argument
abbrev pub resolved_assignment : Names → Frame → Place → How → Expression → Option Resolution → Result (StatementCode × Frame) ProgramFault
resolved_assignment names frame place how value None = fails NameUnknown place
resolved_assignment names frame place how value (Some (resolution.Scalar scalar)) = do
  later ← with_reduction frame.accesses scalar how place
  operand ← resolved_number names later value
  Ok (code.Scalar scalar how operand.0, with_accesses operand.1 frame)
resolved_assignment names frame place how value (Some (resolution.Number slot)) = do
  operand ← resolved_number names frame.accesses value
  Ok (code.Local slot how operand.0, with_accesses operand.1 frame)
resolved_assignment names frame place how value (Some other) = fails TypeMismatch place

-- an assignment to a name with an argument
abbrev pub resolved_field_assignment : Names → Frame → Place → How → Expression → Expression → Option Resolution → Result (StatementCode × Frame) ProgramFault
resolved_field_assignment names frame place how target value found = do
  field ← assigned_field place found
  operand ← resolved_expression names frame.accesses target
  at_element ← element_of_kind field.1 place operand.0
  later ← with_access operand.1 (OfField field.0) (mode_by how) place
  new_value ← resolved_number names later value
  Ok (code.Field place field.0 how at_element new_value.0, with_accesses new_value.1 frame)

-- DECLARATIONS of a local number and of an element, with their slots
abbrev pub declared_number : Names → Frame → List ℕ → Place → Result (ℕ × Names × Frame) ProgramFault
declared_number names frame name at = do
  new ← new_name (resolution_of names name) at
  Ok (frame.numbers, names ++ number_name name frame ∷ [], with_number frame)

abbrev pub declared_element : Names → Frame → List ℕ → Place → Kind → Result (ℕ × Names × Frame) ProgramFault
declared_element names frame name at kind = do
  new ← new_name (resolution_of names name) at
  Ok (length frame.elements, names ++ element_name name kind frame ∷ [], with_element kind frame)

abbrev pub resolved_var : Names → Frame → List ℕ → Place → Expression → Result (StatementCode × Names × Frame) ProgramFault
resolved_var names frame name at init = do
  value ← resolved_number names frame.accesses init
  declared ← declared_number names (with_accesses value.1 frame) name at
  Ok (code.Var declared.0 value.0, declared.1, declared.2)

abbrev pub resolved_val : Names → Frame → List ℕ → Place → Expression → Result (StatementCode × Names × Frame) ProgramFault
resolved_val names frame name at init = do
  value ← resolved_element names frame.accesses init
  declared ← declared_element names (with_accesses value.1 frame) name at value.0.0
  Ok (code.Val declared.0 value.0.1, declared.1, declared.2)

-- STATEMENTS, with the names and the frame at entry and those after them. Of a body the statements so far are given; its names end
-- with it.
abbrev mutual
  pub resolved_statement : Names → Frame → Statement → Result (StatementCode × Names × Frame) ProgramFault
  resolved_statement names frame (Var place name at init) = resolved_var names frame name at init
  resolved_statement names frame (Val place name at init) = resolved_val names frame name at init
  resolved_statement names frame (Assign place name (Some target) how value) = do
    assignment ← resolved_field_assignment names frame place how target value (resolution_of names name)
    Ok (assignment.0, names, assignment.1)
  resolved_statement names frame (Assign place name None how value) = do
    assignment ← resolved_assignment names frame place how value (resolution_of names name)
    Ok (assignment.0, names, assignment.1)
  resolved_statement names frame (If place test first second has_else) = do
    condition ← resolved_truth names frame.accesses test
    first_block ← resolved_body names (with_accesses condition.1 frame) [] first
    second_block ← resolved_body names first_block.1 [] second
    Ok (code.If condition.0 first_block.0 second_block.0, names, second_block.1)
  resolved_statement names frame (While place test body) = do
    condition ← resolved_truth names frame.accesses test
    block ← resolved_body names (with_accesses condition.1 frame) [] body
    Ok (code.While place condition.0 block.0, names, block.1)
  resolved_statement names frame (For place name at set set_at arg body) = do
    operand ← resolved_expression names frame.accesses arg
    origin ← element_with_set set set_at operand.0
    declared ← declared_element names (with_accesses operand.1 frame) name at (kind_of set)
    block ← resolved_body declared.1 declared.2 [] body
    Ok (code.For declared.0 set set_at origin block.0, names, block.1)

  pub resolved_body : Names → Frame → List StatementCode → Body → Result (List StatementCode × Frame) ProgramFault
  resolved_body names frame done no_statement = Ok (done, frame)
  resolved_body names frame done (statement s rest) = do
    next ← resolved_statement names frame s
    resolved_body next.1 next.2 (done ++ next.0 ∷ []) rest

-- A COMPREHENSION, whose own element has slot 0
abbrev pub accesses_in : Accesses → List AccessAt
accesses_in None = []
accesses_in (Some accesses) = accesses

abbrev pub no_slots : Frame
no_slots = record { numbers = 0; elements = []; accesses = Some [] }

abbrev pub resolved_comprehension : Names → List ℕ → Place → Kind → Body → Result ComprehensionCode ProgramFault
resolved_comprehension names name at over body = do
  declared ← declared_element names no_slots name at over
  block ← resolved_body declared.1 declared.2 [] body
  Ok (record { over = over; elements = block.1.elements; numbers = block.1.numbers; body = block.0; accesses = accesses_in block.1.accesses })
