-- The steps by which a statement is resolved, and that a frame only grows.
use Rattle.std.proofs.Common.{◌≡◌, ℕ, ◌+◌, ◌≤◌, List, [], ◌∷◌, ◌++◌, length, Bool, true, false, refl, ap, subst, ◌∙◌, arith}
use Rattle.std.proofs.lemmas.List.{length-append}
use Rattle.std.specs.Prelude.{Option, Some, None, Result, Ok, if◌then◌else◌}
use Rattle.liszt_base.specs.Kinds.{kind_of}
use Rattle.liszt_base.specs.declared.answers.Place.{Place}
use Rattle.liszt_base.specs.declared.answers.ProgramFault.{ProgramFault}
use Rattle.liszt_base.specs.declared.answers.ProgramWhat.TheVariants.{BuiltinWrite}
use Rattle.liszt_base.specs.declared.elements.Kind.{Kind}
use Rattle.liszt_base.specs.declared.elements.SetName.{SetName}
use Rattle.liszt_tree.specs.declared.tree.How.{How}
use Rattle.liszt_tree.specs.Tree.{Expression, Statement, Var, Val, Assign, If, While, For, Body, no_statement, statement}
use Rattle.resolved_code.specs.declared.expressions.ElementCode.{ElementCode}
use Rattle.resolved_code.specs.declared.expressions.NumberCode.{NumberCode}
use Rattle.resolved_code.specs.declared.expressions.TruthCode.{TruthCode}
use Rattle.resolved_code.specs.declared.statements.StatementCode.{StatementCode}
use Rattle.resolved_code.specs.declared.statements.StatementCode.TheVariants as code
use Rattle.phase_types.specs.declared.frame.Frame.{Frame}
use Rattle.phase_types.specs.declared.resolution.Resolution.{Resolution}
use Rattle.phase_types.specs.declared.resolution.Resolution.TheVariants as resolution
use Rattle.phase_types.specs.declared.resolution.TypedCode.{TypedCode}
use Rattle.phase_types.specs.Environments.{is_built_in}
use Rattle.phase_types.specs.Resolve.{◌>>=◌, fails, Names, Accesses, resolution_of, new_name, with_access, element_of_kind, element_with_set, resolved_expression, resolved_number, resolved_truth, resolved_element, with_accesses, with_number, with_element, number_name, element_name, assigned_field, with_reduction, resolved_assignment, resolved_field_assignment, declared_number, declared_element, resolved_var, resolved_val, resolved_statement, resolved_body}
use Rattle.phase_types.specs.Walk.{OfField, mode_by}
use Rattle.stencil_infer.proofs.CodeExpressionLemmas.{bound, ok_is}

abbrev pub Resolved : Type 0
Resolved = StatementCode × Names × Frame

is_new : (found : Option Resolution) (at : Place) (u : Unit {0}) → new_name found at ≡ Ok u → found ≡ None
is_new None at u e = refl
is_new (Some r) at u e = absurd cc

-- DECLARATIONS
pub number_declared : (names : Names) (frame : Frame) (name : List ℕ) (at : Place) (r : ℕ × Names × Frame) → declared_number names frame name at ≡ Ok r
    → (resolution_of names name ≡ None) × ((frame.numbers, names ++ number_name name frame ∷ [], with_number frame) ≡ r)
number_declared names frame name at r e =
    let new = bound (new_name (resolution_of names name) at) (λ new. Ok (frame.numbers, names ++ number_name name frame ∷ [], with_number frame)) r e in
    (is_new (resolution_of names name) at new.0 new.1, ok_is (frame.numbers, names ++ number_name name frame ∷ [], with_number frame) r new.2)

pub element_declared : (names : Names) (frame : Frame) (name : List ℕ) (at : Place) (kind : Kind) (r : ℕ × Names × Frame) → declared_element names frame name at kind ≡ Ok r
    → (resolution_of names name ≡ None) × ((length frame.elements, names ++ element_name name kind frame ∷ [], with_element kind frame) ≡ r)
element_declared names frame name at kind r e =
    let new = bound (new_name (resolution_of names name) at) (λ new. Ok (length frame.elements, names ++ element_name name kind frame ∷ [], with_element kind frame)) r e in
    (is_new (resolution_of names name) at new.0 new.1, ok_is (length frame.elements, names ++ element_name name kind frame ∷ [], with_element kind frame) r new.2)

-- THE STEPS OF `var` AND `val`
pub record VarSteps (names : Names) (frame : Frame) (name : List ℕ) (init : Expression) (r : Resolved) : Type 0 where
  pub value : NumberCode × Accesses
  pub value_is : resolved_number names frame.accesses init ≡ Ok value
  pub result : (code.Var frame.numbers value.0, names ++ number_name name frame ∷ [], with_number (with_accesses value.1 frame)) ≡ r

pub var_steps : (names : Names) (frame : Frame) (name : List ℕ) (at : Place) (init : Expression) (r : Resolved) → resolved_var names frame name at init ≡ Ok r
    → VarSteps names frame name init r
var_steps names frame name at init r e =
    let value = bound (resolved_number names frame.accesses init)
    (λ value. declared_number names (with_accesses value.1 frame) name at >>= λ declared. Ok (code.Var declared.0 value.0, declared.1, declared.2)) r e in
    let declared = bound (declared_number names (with_accesses value.0.1 frame) name at) (λ declared. Ok (code.Var declared.0 value.0.0, declared.1, declared.2)) r value.2 in
    record {
      value = value.0;
      value_is = value.1;
      result = ap (λ (d : ℕ × Names × Frame). (code.Var d.0 value.0.0, d.1, d.2)) (number_declared names (with_accesses value.0.1 frame) name at declared.0 declared.1).1
          ∙ ok_is (code.Var declared.0.0 value.0.0, declared.0.1, declared.0.2) r declared.2;
    }

pub record ValSteps (names : Names) (frame : Frame) (name : List ℕ) (init : Expression) (r : Resolved) : Type 0 where
  pub value : (Kind × ElementCode) × Accesses
  pub value_is : resolved_element names frame.accesses init ≡ Ok value
  pub new : resolution_of names name ≡ None
  pub result : (code.Val (length frame.elements) value.0.1, names ++ element_name name value.0.0 frame ∷ [], with_element value.0.0 (with_accesses value.1 frame)) ≡ r

pub val_steps : (names : Names) (frame : Frame) (name : List ℕ) (at : Place) (init : Expression) (r : Resolved) → resolved_val names frame name at init ≡ Ok r
    → ValSteps names frame name init r
val_steps names frame name at init r e =
    let value = bound (resolved_element names frame.accesses init)
    (λ value. declared_element names (with_accesses value.1 frame) name at value.0.0 >>= λ declared. Ok (code.Val declared.0 value.0.1, declared.1, declared.2)) r e in
    let declared = bound (declared_element names (with_accesses value.0.1 frame) name at value.0.0.0) (λ declared. Ok (code.Val declared.0 value.0.0.1, declared.1, declared.2)) r value.2 in
    let is = element_declared names (with_accesses value.0.1 frame) name at value.0.0.0 declared.0 declared.1 in
    record {
      value = value.0;
      value_is = value.1;
      new = is.0;
      result = ap (λ (d : ℕ × Names × Frame). (code.Val d.0 value.0.0.1, d.1, d.2)) is.1 ∙ ok_is (code.Val declared.0.0 value.0.0.1, declared.0.1, declared.0.2) r declared.2;
    }

-- AN ASSIGNMENT to a field
pub record FieldSteps (names : Names) (frame : Frame) (place : Place) (name : List ℕ) (how : How) (target value : Expression) (r : Resolved) : Type 0 where
  pub field : ℕ
  pub kind : Kind
  pub name_is : resolution_of names name ≡ Some (resolution.Field field kind)
  pub operand : TypedCode × Accesses
  pub operand_is : resolved_expression names frame.accesses target ≡ Ok operand
  pub at_element : ElementCode
  pub element_is : element_of_kind kind place operand.0 ≡ Ok at_element
  pub later : Accesses
  pub new_value : NumberCode × Accesses
  pub value_is : resolved_number names later value ≡ Ok new_value
  pub result : (code.Field place field how at_element new_value.0, names, with_accesses new_value.1 frame) ≡ r

assigned_is : (place : Place) (found : Option Resolution) (field : ℕ × Kind) → assigned_field place found ≡ Ok field → found ≡ Some (resolution.Field field.0 field.1)
assigned_is place None field e = absurd cc
assigned_is place (Some (resolution.Scalar scalar)) field e = absurd cc
assigned_is place (Some (resolution.Number slot)) field e = absurd cc
assigned_is place (Some (resolution.Element slot kind)) field e = absurd cc
assigned_is place (Some (resolution.Field number kind)) field e = go (is_built_in number) e where
  go : (own : Bool) → (if own then fails BuiltinWrite place else Ok (number, kind)) ≡ Ok field → Some (resolution.Field number kind) ≡ Some (resolution.Field field.0 field.1)
  go true e = absurd cc
  go false e = ap (λ (pair : ℕ × Kind). Some (resolution.Field pair.0 pair.1)) (ok_is (number, kind) field e)

-- an assignment to a name
pub data NameSteps (names : Names) (frame : Frame) (how : How) (value : Expression) (r : Resolved) : Type 0 where
  ScalarSteps : (scalar : ℕ) (later : Accesses) (operand : NumberCode × Accesses) → resolved_number names later value ≡ Ok operand
      → (code.Scalar scalar how operand.0, names, with_accesses operand.1 frame) ≡ r → NameSteps names frame how value r
  LocalSteps : (slot : ℕ) (operand : NumberCode × Accesses) → resolved_number names frame.accesses value ≡ Ok operand
      → (code.Local slot how operand.0, names, with_accesses operand.1 frame) ≡ r → NameSteps names frame how value r

abbrev as_statement : Names → StatementCode × Frame → Result Resolved ProgramFault
as_statement names assignment = Ok (assignment.0, names, assignment.1)

abbrev field_with_value : Frame → Place → How → ℕ → ElementCode → NumberCode × Accesses → Result (StatementCode × Frame) ProgramFault
field_with_value frame place how field at_element value = Ok (code.Field place field how at_element value.0, with_accesses value.1 frame)

abbrev field_with_access : Names → Frame → Place → How → Expression → ℕ → ElementCode → Accesses → Result (StatementCode × Frame) ProgramFault
field_with_access names frame place how value field at_element later = resolved_number names later value >>= field_with_value frame place how field at_element

abbrev field_with_element : Names → Frame → Place → How → Expression → ℕ → Accesses → ElementCode → Result (StatementCode × Frame) ProgramFault
field_with_element names frame place how value field accesses at_element =
    with_access accesses (OfField field) (mode_by how) place >>= field_with_access names frame place how value field at_element

abbrev field_with_operand : Names → Frame → Place → How → Expression → ℕ × Kind → TypedCode × Accesses → Result (StatementCode × Frame) ProgramFault
field_with_operand names frame place how value field operand =
    element_of_kind field.1 place operand.0 >>= field_with_element names frame place how value field.0 operand.1

abbrev field_with_target : Names → Frame → Place → How → Expression → Expression → ℕ × Kind → Result (StatementCode × Frame) ProgramFault
field_with_target names frame place how target value field = resolved_expression names frame.accesses target >>= field_with_operand names frame place how value field

pub field_steps : (names : Names) (frame : Frame) (place : Place) (name : List ℕ) (how : How) (target value : Expression) (r : Resolved)
    → resolved_statement names frame (Assign place name (Some target) how value) ≡ Ok r → FieldSteps names frame place name how target value r
field_steps names frame place name how target value r e =
    let whole = bound (resolved_field_assignment names frame place how target value (resolution_of names name)) (as_statement names) r e in
    let field = bound (assigned_field place (resolution_of names name)) (field_with_target names frame place how target value) whole.0 whole.1 in
    let operand = bound (resolved_expression names frame.accesses target) (field_with_operand names frame place how value field.0) whole.0 field.2 in
    let element = bound (element_of_kind field.0.1 place operand.0.0) (field_with_element names frame place how value field.0.0 operand.0.1) whole.0 operand.2 in
    let later = bound (with_access operand.0.1 (OfField field.0.0) (mode_by how) place) (field_with_access names frame place how value field.0.0 element.0) whole.0 element.2 in
    let new_value = bound (resolved_number names later.0 value) (field_with_value frame place how field.0.0 element.0) whole.0 later.2 in
    record {
      field = field.0.0;
      kind = field.0.1;
      name_is = assigned_is place (resolution_of names name) field.0 field.1;
      operand = operand.0;
      operand_is = operand.1;
      at_element = element.0;
      element_is = element.1;
      later = later.0;
      new_value = new_value.0;
      value_is = new_value.1;
      result = ap (λ (a : StatementCode × Frame). (a.0, names, a.1))
          (ok_is (code.Field place field.0.0 how element.0 new_value.0.0, with_accesses new_value.0.1 frame) whole.0 new_value.2)
          ∙ ok_is (whole.0.0, names, whole.0.1) r whole.2;
    }

assignment_steps : (names : Names) (frame : Frame) (place : Place) (how : How) (value : Expression) (found : Option Resolution) (whole : StatementCode × Frame) (r : Resolved)
    → resolved_assignment names frame place how value found ≡ Ok whole → (whole.0, names, whole.1) ≡ r → NameSteps names frame how value r
assignment_steps names frame place how value None whole r e is = absurd cc
assignment_steps names frame place how value (Some (resolution.Field field kind)) whole r e is = absurd cc
assignment_steps names frame place how value (Some (resolution.Element slot kind)) whole r e is = absurd cc
assignment_steps names frame place how value (Some (resolution.Scalar scalar)) whole r e is =
    let later = bound (with_reduction frame.accesses scalar how place)
    (λ later. resolved_number names later value >>= λ operand. Ok (code.Scalar scalar how operand.0, with_accesses operand.1 frame)) whole e in
    let operand = bound (resolved_number names later.0 value) (λ operand. Ok (code.Scalar scalar how operand.0, with_accesses operand.1 frame)) whole later.2 in
    ScalarSteps scalar later.0 operand.0 operand.1
    (ap (λ (a : StatementCode × Frame). (a.0, names, a.1)) (ok_is (code.Scalar scalar how operand.0.0, with_accesses operand.0.1 frame) whole operand.2) ∙ is)
assignment_steps names frame place how value (Some (resolution.Number slot)) whole r e is =
    let operand = bound (resolved_number names frame.accesses value) (λ operand. Ok (code.Local slot how operand.0, with_accesses operand.1 frame)) whole e in
    LocalSteps slot operand.0 operand.1
    (ap (λ (a : StatementCode × Frame). (a.0, names, a.1)) (ok_is (code.Local slot how operand.0.0, with_accesses operand.0.1 frame) whole operand.2) ∙ is)

pub name_steps : (names : Names) (frame : Frame) (place : Place) (name : List ℕ) (how : How) (value : Expression) (r : Resolved)
    → resolved_statement names frame (Assign place name None how value) ≡ Ok r → NameSteps names frame how value r
name_steps names frame place name how value r e =
    let whole = bound (resolved_assignment names frame place how value (resolution_of names name)) (as_statement names) r e in
    assignment_steps names frame place how value (resolution_of names name) whole.0 r whole.1 (ok_is (whole.0.0, names, whole.0.1) r whole.2)

-- BLOCKS
abbrev pub Block : Type 0
Block = List StatementCode × Frame

pub record IfSteps (names : Names) (frame : Frame) (test : Expression) (first second : Body) (r : Resolved) : Type 0 where
  pub condition : TruthCode × Accesses
  pub condition_is : resolved_truth names frame.accesses test ≡ Ok condition
  pub block : Block
  pub block_is : resolved_body names (with_accesses condition.1 frame) [] first ≡ Ok block
  pub other : Block
  pub other_is : resolved_body names block.1 [] second ≡ Ok other
  pub result : (code.If condition.0 block.0 other.0, names, other.1) ≡ r

abbrev if_with_blocks : Names → TruthCode → List StatementCode → Block → Result Resolved ProgramFault
if_with_blocks names condition block other = Ok (code.If condition block other.0, names, other.1)

abbrev if_with_block : Names → Body → TruthCode → Block → Result Resolved ProgramFault
if_with_block names second condition block = resolved_body names block.1 [] second >>= if_with_blocks names condition block.0

abbrev if_with_test : Names → Frame → Body → Body → TruthCode × Accesses → Result Resolved ProgramFault
if_with_test names frame first second condition = resolved_body names (with_accesses condition.1 frame) [] first >>= if_with_block names second condition.0

pub if_steps : (names : Names) (frame : Frame) (place : Place) (test : Expression) (first second : Body) (has_else : Bool) (r : Resolved)
    → resolved_statement names frame (If place test first second has_else) ≡ Ok r → IfSteps names frame test first second r
if_steps names frame place test first second has_else r e =
    let condition = bound (resolved_truth names frame.accesses test) (if_with_test names frame first second) r e in
    let block = bound (resolved_body names (with_accesses condition.0.1 frame) [] first) (if_with_block names second condition.0.0) r condition.2 in
    let other = bound (resolved_body names block.0.1 [] second) (if_with_blocks names condition.0.0 block.0.0) r block.2 in
    record {
      condition = condition.0;
      condition_is = condition.1;
      block = block.0;
      block_is = block.1;
      other = other.0;
      other_is = other.1;
      result = ok_is (code.If condition.0.0 block.0.0 other.0.0, names, other.0.1) r other.2;
    }

pub record WhileSteps (names : Names) (frame : Frame) (place : Place) (test : Expression) (body : Body) (r : Resolved) : Type 0 where
  pub condition : TruthCode × Accesses
  pub condition_is : resolved_truth names frame.accesses test ≡ Ok condition
  pub block : Block
  pub block_is : resolved_body names (with_accesses condition.1 frame) [] body ≡ Ok block
  pub result : (code.While place condition.0 block.0, names, block.1) ≡ r

abbrev while_with_block : Names → Place → TruthCode → Block → Result Resolved ProgramFault
while_with_block names place condition block = Ok (code.While place condition block.0, names, block.1)

abbrev while_with_test : Names → Frame → Place → Body → TruthCode × Accesses → Result Resolved ProgramFault
while_with_test names frame place body condition = resolved_body names (with_accesses condition.1 frame) [] body >>= while_with_block names place condition.0

pub while_steps : (names : Names) (frame : Frame) (place : Place) (test : Expression) (body : Body) (r : Resolved)
    → resolved_statement names frame (While place test body) ≡ Ok r → WhileSteps names frame place test body r
while_steps names frame place test body r e =
    let condition = bound (resolved_truth names frame.accesses test) (while_with_test names frame place body) r e in
    let block = bound (resolved_body names (with_accesses condition.0.1 frame) [] body) (while_with_block names place condition.0.0) r condition.2 in
    record {
      condition = condition.0;
      condition_is = condition.1;
      block = block.0;
      block_is = block.1;
      result = ok_is (code.While place condition.0.0 block.0.0, names, block.0.1) r block.2;
    }

pub record ForSteps (names : Names) (frame : Frame) (name : List ℕ) (set : SetName) (set_at : Place) (arg : Expression) (body : Body) (r : Resolved) : Type 0 where
  pub operand : TypedCode × Accesses
  pub operand_is : resolved_expression names frame.accesses arg ≡ Ok operand
  pub origin : ElementCode
  pub origin_is : element_with_set set set_at operand.0 ≡ Ok origin
  pub new : resolution_of names name ≡ None
  pub block : Block
  pub block_is : resolved_body (names ++ element_name name (kind_of set) frame ∷ []) (with_element (kind_of set) (with_accesses operand.1 frame)) [] body ≡ Ok block
  pub result : (code.For (length frame.elements) set set_at origin block.0, names, block.1) ≡ r

abbrev for_with_block : Names → SetName → Place → ElementCode → ℕ → Block → Result Resolved ProgramFault
for_with_block names set set_at origin slot block = Ok (code.For slot set set_at origin block.0, names, block.1)

abbrev for_with_slot : Names → SetName → Place → Body → ElementCode → ℕ × Names × Frame → Result Resolved ProgramFault
for_with_slot names set set_at body origin declared = resolved_body declared.1 declared.2 [] body >>= for_with_block names set set_at origin declared.0

abbrev for_with_origin : Names → Frame → List ℕ → Place → SetName → Place → Body → Accesses → ElementCode → Result Resolved ProgramFault
for_with_origin names frame name at set set_at body accesses origin =
    declared_element names (with_accesses accesses frame) name at (kind_of set) >>= for_with_slot names set set_at body origin

abbrev for_with_operand : Names → Frame → List ℕ → Place → SetName → Place → Body → TypedCode × Accesses → Result Resolved ProgramFault
for_with_operand names frame name at set set_at body operand = element_with_set set set_at operand.0 >>= for_with_origin names frame name at set set_at body operand.1

pub for_steps : (names : Names) (frame : Frame) (place : Place) (name : List ℕ) (at : Place) (set : SetName) (set_at : Place) (arg : Expression) (body : Body) (r : Resolved)
    → resolved_statement names frame (For place name at set set_at arg body) ≡ Ok r → ForSteps names frame name set set_at arg body r
for_steps names frame place name at set set_at arg body r e =
    let operand = bound (resolved_expression names frame.accesses arg) (for_with_operand names frame name at set set_at body) r e in
    let origin = bound (element_with_set set set_at operand.0.0) (for_with_origin names frame name at set set_at body operand.0.1) r operand.2 in
    let declared = bound (declared_element names (with_accesses operand.0.1 frame) name at (kind_of set)) (for_with_slot names set set_at body origin.0) r origin.2 in
    let is = element_declared names (with_accesses operand.0.1 frame) name at (kind_of set) declared.0 declared.1 in
    let next : for_with_slot names set set_at body origin.0
    (length frame.elements, names ++ element_name name (kind_of set) frame ∷ [], with_element (kind_of set) (with_accesses operand.0.1 frame)) ≡ Ok r =
    ap (for_with_slot names set set_at body origin.0) is.1 ∙ declared.2 in
    let block = bound (resolved_body (names ++ element_name name (kind_of set) frame ∷ []) (with_element (kind_of set) (with_accesses operand.0.1 frame)) [] body)
    (for_with_block names set set_at origin.0 (length frame.elements)) r next in
    record {
      operand = operand.0;
      operand_is = operand.1;
      origin = origin.0;
      origin_is = origin.1;
      new = is.0;
      block = block.0;
      block_is = block.1;
      result = ok_is (code.For (length frame.elements) set set_at origin.0 block.0.0, names, block.0.1) r block.2;
    }

-- a body with a first statement
pub record BodySteps (names : Names) (frame : Frame) (done : List StatementCode) (s : Statement) (rest : Body) (r : Block) : Type 0 where
  pub first : Resolved
  pub first_is : resolved_statement names frame s ≡ Ok first
  pub rest_is : resolved_body first.1 first.2 (done ++ first.0 ∷ []) rest ≡ Ok r

pub body_steps : (names : Names) (frame : Frame) (done : List StatementCode) (s : Statement) (rest : Body) (r : Block)
    → resolved_body names frame done (statement s rest) ≡ Ok r → BodySteps names frame done s rest r
body_steps names frame done s rest r e =
    let first = bound (resolved_statement names frame s) (λ next. resolved_body next.1 next.2 (done ++ next.0 ∷ []) rest) r e in
    record { first = first.0; first_is = first.1; rest_is = first.2 }

-- A FRAME ONLY GROWS.
abbrev slots_in : Resolved → ℕ
slots_in r = length r.2.elements

grown : {r : Resolved} (n : ℕ) (x : Resolved) → x ≡ r → n ≤ slots_in x → n ≤ slots_in r
grown n x is h = subst (λ r. n ≤ slots_in r) is h

more_elements : (kind : Kind) (frame : Frame) → length (with_element kind frame).elements ≡ length frame.elements + 1
more_elements kind frame = length-append frame.elements (kind ∷ [])

mutual
  pub statement_grows : (names : Names) (frame : Frame) (s : Statement) (r : Resolved) → resolved_statement names frame s ≡ Ok r → length frame.elements ≤ length r.2.elements
  statement_grows names frame (Var place name at init) r e =
      let x = var_steps names frame name at init r e in grown (length frame.elements) _ x.result (omega arith)
  statement_grows names frame (Val place name at init) r e =
      let x = val_steps names frame name at init r e in
      grown (length frame.elements) _ x.result (omega (arith, more_elements x.value.0.0 (with_accesses x.value.1 frame)))
  statement_grows names frame (Assign place name (Some target) how value) r e =
      let x = field_steps names frame place name how target value r e in grown (length frame.elements) _ x.result (omega arith)
  statement_grows names frame (Assign place name None how value) r e = go (name_steps names frame place name how value r e) where
    go : NameSteps names frame how value r → length frame.elements ≤ length r.2.elements
    go (ScalarSteps scalar later operand is result) = grown (length frame.elements) _ result (omega arith)
    go (LocalSteps slot operand is result) = grown (length frame.elements) _ result (omega arith)
  statement_grows names frame (If place test first second has_else) r e =
      let x = if_steps names frame place test first second has_else r e in
      grown (length frame.elements) _ x.result
      (omega (arith, body_grows names (with_accesses x.condition.1 frame) [] first x.block x.block_is, body_grows names x.block.1 [] second x.other x.other_is))
  statement_grows names frame (While place test body) r e =
      let x = while_steps names frame place test body r e in
      grown (length frame.elements) _ x.result (omega (arith, body_grows names (with_accesses x.condition.1 frame) [] body x.block x.block_is))
  statement_grows names frame (For place name at set set_at arg body) r e =
      let x = for_steps names frame place name at set set_at arg body r e in
      grown (length frame.elements) _ x.result
      (omega (
        arith,
        more_elements (kind_of set) (with_accesses x.operand.1 frame),
        body_grows (names ++ element_name name (kind_of set) frame ∷ []) (with_element (kind_of set) (with_accesses x.operand.1 frame)) [] body x.block x.block_is,
      ))

  pub body_grows : (names : Names) (frame : Frame) (done : List StatementCode) (body : Body) (r : Block) → resolved_body names frame done body ≡ Ok r
      → length frame.elements ≤ length r.1.elements
  body_grows names frame done no_statement r e = subst (λ (r : Block). length frame.elements ≤ length r.1.elements) (ok_is (done, frame) r e) (omega arith)
  body_grows names frame done (statement s rest) r e =
      let x = body_steps names frame done s rest r e in
      omega (arith, statement_grows names frame s x.first x.first_is, body_grows x.first.1 x.first.2 (done ++ x.first.0 ∷ []) rest r x.rest_is)
