-- The checked program of a tree, or the tree's first fault. This project's own.
use Rattle.std.specs.Option.{option_map, option_and_then}
use Rattle.std.specs.Prelude.{◌≡◌, ◌≤◌, ℕ, ◌+◌, Bool, true, false, Option, Some, None, List, [], ◌∷◌, ◌++◌, length, slice_get, codes, Result, Ok}
use Rattle.liszt_base.specs.declared.answers.Place.{Place}
use Rattle.liszt_base.specs.declared.answers.ProgramFault.{ProgramFault}
use Rattle.liszt_base.specs.declared.answers.ProgramWhat.TheVariants.{NameUnknown, TypeMismatch}
use Rattle.liszt_base.specs.declared.elements.Kind.{Kind}
use Rattle.liszt_base.specs.declared.elements.Kind.TheVariants.{Vertex, Cell}
use Rattle.liszt_base.specs.Limits.{token_limit}
use Rattle.resolved_code.specs.declared.expressions.NumberCode.{NumberCode}
use Rattle.resolved_code.specs.declared.expressions.TruthCode.{TruthCode}
use Rattle.liszt_tree.specs.Tree.{Expression, MainItem, MainField, MainVar, MainAssign, MainIf, MainWhile, MainFor, Print, Main, no_item, item}
use Rattle.resolved_code.specs.declared.items.BlockCode.{BlockCode}
use Rattle.resolved_code.specs.declared.items.ComprehensionCode.{ComprehensionCode}
use Rattle.resolved_code.specs.declared.items.ItemCode.{ItemCode}
use Rattle.resolved_code.specs.declared.items.ItemCode.TheVariants as code
pub use Rattle.phase_types.specs.declared.state.CheckedProgram.{CheckedProgram}
pub use Rattle.phase_types.specs.declared.state.MainState.{MainState}
use Rattle.phase_types.specs.declared.resolution.Resolution.{Resolution}
use Rattle.phase_types.specs.declared.resolution.Resolution.TheVariants as resolution
use Rattle.liszt_base.specs.declared.accesses.Mode.{Mode}
use Rattle.phase_types.specs.Environments.{first_declared, has_else_block, fields_of, scalars_of, scopes_of, comprehensions_of, comprehension_of}
use Rattle.phase_types.specs.Resolve.{◌>>=◌, fails, Names, resolution_of, new_name, first_access, resolved_number, resolved_truth, resolved_comprehension}
use Rattle.phase_types.specs.Walk.{Subject, OfField, OfScalar, mode_of, scalar_mode_of}

-- THE NUMBER OF ITEMS of a main program, those in its blocks counted
abbrev mutual
  pub item_count : Main → ℕ
  item_count no_item = 0
  item_count (item i rest) = items_of_item i + item_count rest

  pub items_of_item : MainItem → ℕ
  items_of_item (MainIf place test first second has_else) = 1 + item_count first + item_count second
  items_of_item (MainWhile place test body) = 1 + item_count body
  items_of_item _ = 1

-- THE START of the main program: the built-in fields are visible
abbrev pub built_in_names : Names
built_in_names =
    (codes "PosX", resolution.Field 0 Vertex) ∷ (codes "PosY", resolution.Field 1 Vertex) ∷ (codes "PosZ", resolution.Field 2 Vertex)
    ∷ (codes "Mark", resolution.Field 3 Vertex) ∷ (codes "Region", resolution.Field 4 Cell) ∷ []

abbrev pub first_state : MainState
first_state = record { names = built_in_names; scope = 0; fields = []; scalars = []; scopes = 0 ∷ []; comprehensions = [] }

abbrev pub declares_field : List ℕ → Kind → MainState → MainState
declares_field name kind state =
    record {
      names = state.names ++ (name, resolution.Field (first_declared + length state.fields) kind) ∷ [];
      scope = state.scope;
      fields = state.fields ++ record { name = name; kind = kind; scope = state.scope } ∷ [];
      scalars = state.scalars;
      scopes = state.scopes;
      comprehensions = state.comprehensions;
    }

abbrev pub declares_scalar : List ℕ → MainState → MainState
declares_scalar name state =
    record {
      names = state.names ++ (name, resolution.Scalar (length state.scalars)) ∷ [];
      scope = state.scope;
      fields = state.fields;
      scalars = state.scalars ++ name ∷ [];
      scopes = state.scopes;
      comprehensions = state.comprehensions;
    }

abbrev pub with_comprehension_code : ComprehensionCode → MainState → MainState
with_comprehension_code c state =
    record {
      names = state.names;
      scope = state.scope;
      fields = state.fields;
      scalars = state.scalars;
      scopes = state.scopes;
      comprehensions = state.comprehensions ++ c ∷ [];
    }

-- the state at the start of a block; and after a block, whose last state is «end»
abbrev pub opens_block : MainState → MainState
opens_block state =
    record {
      names = state.names;
      scope = length state.scopes;
      fields = state.fields;
      scalars = state.scalars;
      scopes = state.scopes ++ state.scope ∷ [];
      comprehensions = state.comprehensions;
    }

abbrev pub closes_block : MainState → MainState → MainState
closes_block state «end» =
    record {
      names = state.names;
      scope = state.scope;
      fields = «end».fields;
      scalars = «end».scalars;
      scopes = «end».scopes;
      comprehensions = «end».comprehensions;
    }

-- DECLARATIONS of a field and of a scalar, with their numbers
abbrev pub declared_field : MainState → List ℕ → Place → Kind → Result (ℕ × MainState) ProgramFault
declared_field state name at kind = do
  new ← new_name (resolution_of state.names name) at
  Ok (first_declared + length state.fields, declares_field name kind state)

abbrev pub declared_scalar : MainState → List ℕ → Place → Result (ℕ × MainState) ProgramFault
declared_scalar state name at = do
  new ← new_name (resolution_of state.names name) at
  Ok (length state.scalars, declares_scalar name state)

-- values of the main program, whose accesses have no phase
abbrev pub main_number : Names → Expression → Result NumberCode ProgramFault
main_number names e = do
  value ← resolved_number names None e
  Ok value.0

abbrev pub main_truth : Names → Expression → Result TruthCode ProgramFault
main_truth names e = do
  value ← resolved_truth names None e
  Ok value.0

abbrev pub assigned_scalar : Place → Option Resolution → Result ℕ ProgramFault
assigned_scalar place None = fails NameUnknown place
assigned_scalar place (Some (resolution.Scalar scalar)) = Ok scalar
assigned_scalar place (Some other) = fails TypeMismatch place

abbrev pub block_code : MainState → List ItemCode → BlockCode
block_code state items = record { scope = length state.scopes; items = items }

-- the block after `else`, if there is one, by the items that it resolves to
abbrev pub else_block : Bool → MainState → Result (List ItemCode × MainState) ProgramFault → Result (Option BlockCode × MainState) ProgramFault
else_block false state block = Ok (None, state)
else_block true state block = do
  items ← block
  Ok (Some (block_code state items.0), closes_block state items.1)

-- ITEMS, with the state at entry and the state after them. Of a block the items so far
-- are given.
abbrev mutual
  pub resolved_item : MainState → MainItem → Result (ItemCode × MainState) ProgramFault
  resolved_item state (MainField place name at kind init) = do
    value ← main_number state.names init
    declared ← declared_field state name at kind
    Ok (code.Field declared.0 value, declared.1)
  resolved_item state (MainVar place name at init) = do
    value ← main_number state.names init
    declared ← declared_scalar state name at
    Ok (code.Var declared.0 value, declared.1)
  resolved_item state (MainAssign place name how value) = do
    scalar ← assigned_scalar place (resolution_of state.names name)
    new_value ← main_number state.names value
    Ok (code.Assign scalar how new_value, state)
  resolved_item state (MainIf place test first second has_else) = do
    condition ← main_truth state.names test
    first_items ← resolved_items (opens_block state) [] first
    let after_first = closes_block state first_items.1
    second_block ← else_block (has_else_block second has_else) after_first (resolved_items (opens_block after_first) [] second)
    Ok (code.If condition (block_code state first_items.0) second_block.0, second_block.1)
  resolved_item state (MainWhile place test body) = do
    condition ← main_truth state.names test
    items ← resolved_items (opens_block state) [] body
    Ok (code.While place condition (block_code state items.0), closes_block state items.1)
  resolved_item state (MainFor place name at over body) = do
    c ← resolved_comprehension state.names name at over body
    Ok (code.For (length state.comprehensions), with_comprehension_code c state)
  resolved_item state (Print place value) = do
    operand ← main_number state.names value
    Ok (code.Print place operand, state)

  pub resolved_items : MainState → List ItemCode → Main → Result (List ItemCode × MainState) ProgramFault
  resolved_items state done no_item = Ok (done, state)
  resolved_items state done (item i rest) = do
    next ← resolved_item state i
    resolved_items next.1 (done ++ next.0 ∷ []) rest

abbrev pub checked_program : Main → Result CheckedProgram ProgramFault
checked_program program = do
  whole ← resolved_items first_state [] program
  Ok (record {
    fields = whole.1.fields;
    scalars = whole.1.scalars;
    scopes = whole.1.scopes;
    comprehensions = whole.1.comprehensions;
    items = whole.0;
  })

-- of a comprehension by its number: its kind, and its mode of a field or scalar, that of the first access
abbrev pub checked_kind : CheckedProgram → ℕ → Option Kind
checked_kind checked k = option_map (λ c. c.over) (slice_get checked.comprehensions k)

abbrev pub access_mode : ComprehensionCode → Subject → Option Mode
access_mode c subject = option_map (λ access. access.mode) (first_access c.accesses subject)

abbrev pub checked_mode : CheckedProgram → ℕ → Subject → Option Mode
checked_mode checked k subject = option_and_then (λ c. access_mode c subject) (slice_get checked.comprehensions k)

-- THE PARTS of a checked program are those of its tree: its fields, scalars and scopes, and of each comprehension the kind and the
-- modes of fields and scalars.
pub record HasPartsOf (program : Main) (checked : CheckedProgram) : Type 0 where
  pub fields : checked.fields ≡ fields_of program
  pub scalars : checked.scalars ≡ scalars_of program
  pub scopes : checked.scopes ≡ scopes_of program
  pub comprehensions : length checked.comprehensions ≡ length (comprehensions_of program)
  pub kinds : (k : ℕ) → checked_kind checked k ≡ option_map (λ c. c.over) (comprehension_of program k)
  pub modes : (k field : ℕ) → checked_mode checked k (OfField field) ≡ mode_of program k field
  pub scalar_modes : (k scalar : ℕ) → checked_mode checked k (OfScalar scalar) ≡ scalar_mode_of program k scalar

-- the numbers of declared fields, scalars and comprehensions are within a limit
pub record IsWithin (limit : ℕ) (checked : CheckedProgram) : Type 0 where
  pub fields : length checked.fields ≤ limit
  pub scalars : length checked.scalars ≤ limit
  pub comprehensions : length checked.comprehensions ≤ limit

-- the checked program of a program that is not too long
pub record IsChecked (checked : CheckedProgram) : Type 0 where
  pub program : Main
  pub items : item_count program ≤ token_limit
  pub is : checked_program program ≡ Ok checked
