-- What a function of the resolver answers, with the state that it leaves. This project's own.
use Rattle.std.specs.Prelude.{◌≡◌, ◌++◌, length, Bool, Some, ℕ, Option, List, [], Result, Ok, Err}
use Rattle.liszt_base.specs.Kinds.{kind_of}
use Rattle.liszt_base.specs.declared.elements.Kind.{Kind}
use Rattle.liszt_base.specs.declared.elements.SetName.{SetName}
use Rattle.resolved_code.specs.declared.expressions.ElementCode.{ElementCode}
use Rattle.resolved_code.specs.declared.expressions.TruthCode.{TruthCode}
use Rattle.resolved_code.specs.declared.items.ComprehensionCode.{ComprehensionCode}
use Rattle.resolved_code.specs.declared.statements.StatementCode.{StatementCode}
use Rattle.resolved_code.specs.declared.statements.StatementCode.TheVariants as code
use Rattle.liszt_base.specs.declared.accesses.Mode.TheVariants.{Read}
use Rattle.liszt_base.specs.declared.answers.Place.{Place}
use Rattle.liszt_base.specs.declared.answers.ProgramFault.{ProgramFault}
use Rattle.resolved_code.specs.declared.items.BlockCode.{BlockCode}
use Rattle.resolved_code.specs.declared.items.ItemCode.{ItemCode}
use Rattle.resolved_code.specs.declared.items.ItemCode.TheVariants as item
use Rattle.phase_types.specs.Checked.{main_number, main_truth, declared_field, declared_scalar, with_comprehension_code, MainState, opens_block, closes_block, block_code, else_block, resolved_items}
use Rattle.phase_types.specs.Environments.{has_else_block}
use Rattle.liszt_tree.specs.Tree.{Main, Body, Expression}
use Rattle.resolved_code.specs.declared.expressions.NumberCode.TheVariants as number
use Rattle.phase_types.specs.declared.resolution.Resolution.{Resolution}
use Rattle.phase_types.specs.declared.resolution.TypedCode.{TypedCode}
use Rattle.phase_types.specs.declared.resolution.TypedCode.TheVariants as typed
use Rattle.phase_types.specs.Resolve.{◌>>=◌, resolved_comprehension, accesses_in, Frame, declared_element, resolved_body, Names, Accesses, with_access, element_of_kind, named_field, resolved_expression}
use Rattle.phase_types.specs.Walk.{OfField}

abbrev pub paired : {A S F : Type 0} → Result A F → S → Result (A × S) F
paired (Ok value) state = Ok (value, state)
paired (Err fault) state = Err fault

abbrev pub state_of : {A S F : Type 0} → Result A F → S → Result S F
state_of (Ok value) state = Ok state
state_of (Err fault) state = Err fault

-- a field at an argument, by what its name denotes
abbrev pub resolved_field : Names → Accesses → Place → Option Resolution → Expression → Result (TypedCode × Accesses) ProgramFault
resolved_field names accesses place found arg = do
  field ← named_field place found
  operand ← resolved_expression names accesses arg
  target ← element_of_kind field.1 place operand.0
  later ← with_access operand.1 (OfField field.0) Read place
  Ok (typed.Number (number.Field place field.0 target), later)

abbrev pub with_names : {A N S F : Type 0} → Result A F → N → S → Result (A × N × S) F
with_names (Ok value) names state = Ok (value, names, state)
with_names (Err fault) names state = Err fault

-- a block with an element of its own
abbrev pub resolved_loop : Names → Frame → List ℕ → Place → Kind → Body → Result ((ℕ × List StatementCode) × Frame) ProgramFault
resolved_loop names frame name at kind body = do
  declared ← declared_element names frame name at kind
  block ← resolved_body declared.1 declared.2 [] body
  Ok ((declared.0, block.0), block.1)

-- statements of a test or an element that is resolved; an `if` also of its first block
abbrev pub choice_code : Names → Frame → TruthCode → List StatementCode → Body → Result (StatementCode × Names × Frame) ProgramFault
choice_code names frame test first second = do
  block ← resolved_body names frame [] second
  Ok (code.If test first block.0, names, block.1)

abbrev pub repetition_code : Names → Frame → Place → TruthCode → Body → Result (StatementCode × Names × Frame) ProgramFault
repetition_code names frame place test body = do
  block ← resolved_body names frame [] body
  Ok (code.While place test block.0, names, block.1)

abbrev pub members_code : Names → Frame → List ℕ → Place → SetName → Place → ElementCode → Body → Result (StatementCode × Names × Frame) ProgramFault
members_code names frame name at set set_at arg body = do
  block ← resolved_loop names frame name at (kind_of set) body
  Ok (code.For block.0.0 set set_at arg block.0.1, names, block.1)

abbrev pub comprehension_code : Kind → Frame → List StatementCode → ComprehensionCode
comprehension_code over frame body =
    record { over = over; elements = frame.elements; numbers = frame.numbers; body = body; accesses = accesses_in frame.accesses }

-- a block of the main program, and the block after `else`
abbrev pub resolved_block : MainState → Main → Result (BlockCode × MainState) ProgramFault
resolved_block state items = do
  block ← resolved_items (opens_block state) [] items
  Ok (block_code state block.0, closes_block state block.1)

abbrev pub resolved_else : MainState → Main → Bool → Result (Option BlockCode × MainState) ProgramFault
resolved_else state items has_else = else_block (has_else_block items has_else) state (resolved_items (opens_block state) [] items)

-- an `if` of a resolved test and a resolved first block, and a `while`
abbrev pub main_choice_code : MainState → TruthCode → BlockCode → Main → Bool → Result (ItemCode × MainState) ProgramFault
main_choice_code state test first second has_else = do
  block ← resolved_else state second has_else
  Ok (item.If test first block.0, block.1)

abbrev pub main_repetition_code : MainState → Place → Expression → Main → Result (ItemCode × MainState) ProgramFault
main_repetition_code state place test body = do
  condition ← main_truth state.names test
  block ← resolved_block state body
  Ok (item.While place condition block.0, block.1)

-- declarations and comprehensions as items
abbrev pub field_item : MainState → List ℕ → Place → Kind → Expression → Result (ItemCode × MainState) ProgramFault
field_item state name at kind init = do
  value ← main_number state.names init
  declared ← declared_field state name at kind
  Ok (item.Field declared.0 value, declared.1)

abbrev pub scalar_item : MainState → List ℕ → Place → Expression → Result (ItemCode × MainState) ProgramFault
scalar_item state name at init = do
  value ← main_number state.names init
  declared ← declared_scalar state name at
  Ok (item.Var declared.0 value, declared.1)

abbrev pub comprehension_item : MainState → List ℕ → Place → Kind → Body → Result (ItemCode × MainState) ProgramFault
comprehension_item state name at over body = do
  c ← resolved_comprehension state.names name at over body
  Ok (item.For (length state.comprehensions), with_comprehension_code c state)

-- names that are visible remain the first ones
abbrev pub ExtendsNames : Names → Names → Type 0
ExtendsNames names later = (rest : Names) × (later ≡ names ++ rest)

abbrev pub some_block : MainState → Main → Result (Option BlockCode × MainState) ProgramFault
some_block state items = do
  block ← resolved_block state items
  Ok (Some block.0, block.1)
