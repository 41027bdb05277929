-- The walk through a program, its accesses, and its first fault. This project's own; that a field has one mode in a comprehension
-- is the Liszt paper's (DeVito et al., Supercomputing 2011).
use Rattle.std.specs.Prelude.{ℕ, not, Bool, true, false, if◌then◌else◌, Option, Some, None, is_some, List, [], ◌∷◌, ◌++◌, map}
use Rattle.std.specs.List.{find, filter, filter_map, list_any}
use Rattle.std.specs.Option.{option_and_then, option_map}
use Rattle.liszt_base.specs.Kinds.{has_set, kind_of}
use Rattle.liszt_base.specs.declared.accesses.Mode.{Mode}
use Rattle.liszt_base.specs.declared.accesses.Mode.TheVariants.{Read, Write, Reduce}
use Rattle.liszt_base.specs.declared.answers.Place.{Place}
use Rattle.liszt_base.specs.declared.answers.ProgramFault.{ProgramFault}
use Rattle.liszt_base.specs.declared.answers.ProgramWhat.{ProgramWhat}
use Rattle.liszt_base.specs.declared.answers.ProgramWhat.TheVariants.{NameUnknown, NameTwice, TypeMismatch, PhaseConflict, ScalarWrite, BuiltinWrite}
use Rattle.liszt_base.specs.declared.elements.Op.{Op}
use Rattle.liszt_base.specs.declared.elements.Op.TheVariants.{Add, Mul, And, Or, Xor, Min, Max}
use Rattle.liszt_base.specs.declared.elements.SetName.{SetName}
use Rattle.liszt_tree.specs.declared.tree.How.{How}
use Rattle.liszt_tree.specs.declared.tree.How.TheVariants.{Set, Fold, Less}
use Rattle.liszt_tree.specs.Tree.{Expression, Number, Name, Field, Call, Towards, Neg, Not, Chain, Compare, Links, no_links, link}
use Rattle.liszt_tree.specs.Tree.{Statement, Var, Val, Assign, If, While, For, Body, no_statement, statement}
use Rattle.liszt_tree.specs.Tree.{MainItem, MainField, MainVar, MainAssign, MainIf, MainWhile, MainFor, Print, Main, no_item, item}
pub use Rattle.resolved_code.specs.Accesses.{is_subject}
pub use Rattle.resolved_code.specs.declared.accesses.AccessAt.{AccessAt}
pub use Rattle.resolved_code.specs.declared.accesses.Subject.{Subject}
pub use Rattle.resolved_code.specs.declared.accesses.Subject.TheVariants.{Field as OfField, Scalar as OfScalar}
use Rattle.phase_types.specs.Environments.{Environment, Binding, FieldName, ScalarName, LocalName, ElementName, binding_of, is_built_in, Comprehension, Site, start, after_item, comprehension_at, block_start, after_block, after_main, comprehension_of}
use Rattle.phase_types.specs.Types.{ValueType, NumberType, TruthType, ElementType, is_type, type_of, operator_type}

-- ACCESSES of a comprehension: to a field or a scalar of the main program, in a mode, at a place
abbrev pub is_op : Op → Op → Bool
is_op Add Add = true
is_op Mul Mul = true
is_op And And = true
is_op Or Or = true
is_op Xor Xor = true
is_op Min Min = true
is_op Max Max = true
is_op _ _ = false

abbrev pub is_mode : Mode → Mode → Bool
is_mode Read Read = true
is_mode Write Write = true
is_mode (Reduce op) (Reduce other) = is_op op other
is_mode _ _ = false

-- `=` writes, an operator reduces, and `-=` is a reduction by `+`
abbrev pub mode_by : How → Mode
mode_by Set = Write
mode_by (Fold op) = Reduce op
mode_by Less = Reduce Add

-- THE WALK is a list of steps in the order of the text: tests, each with its fault if it fails, and accesses.
pub data Step : Type 0 where
  TestStep : Option ProgramFault → Step
  AccessStep : AccessAt → Step

abbrev pub fault_at : ProgramWhat → Place → ProgramFault
fault_at what place = record { what = what; place = place; first = None }

abbrev pub failure : ProgramWhat → Place → List Step
failure what place = TestStep (Some (fault_at what place)) ∷ []

abbrev pub requirement : Bool → ProgramWhat → Place → List Step
requirement true what place = TestStep None ∷ []
requirement false what place = failure what place

abbrev pub access_step : Subject → Mode → Place → List Step
access_step subject mode place = AccessStep (record { subject = subject; mode = mode; place = place }) ∷ []

-- The place of an expression is that of its operator, for a chain that of the first operator, and else that of its first word. A chain
-- without an operator, which no text has, is at its operand.
abbrev pub place_of : Expression → Place
place_of (Number place value) = place
place_of (Name place name) = place
place_of (Field place name arg) = place
place_of (Call place fun arg) = place
place_of (Towards place arg to) = place
place_of (Neg place arg) = place
place_of (Not place arg) = place
place_of (Chain level first (link sign place arg rest)) = place
place_of (Chain level first no_links) = place_of first
place_of (Compare place rel left right) = place

-- whether a type is the expected one; whether it is that of an element with a set
abbrev pub has_type : ValueType → Option ValueType → Bool
has_type type None = false
has_type type (Some other) = is_type type other

abbrev pub has_members : SetName → Option ValueType → Bool
has_members set (Some (ElementType kind)) = has_set kind set
has_members set _ = false

-- THE STEPS OF AN EXPRESSION: of a name; of a field at an argument; of any expression, operands first. An expression whose operands have
-- unsuitable types has no type, and is a type mismatch.
abbrev pub name_steps : Place → Option Binding → List Step
name_steps place None = failure NameUnknown place
name_steps place (Some (FieldName number kind)) = failure TypeMismatch place
name_steps place (Some (ScalarName number)) = access_step (OfScalar number) Read place
name_steps place (Some LocalName) = []
name_steps place (Some (ElementName kind)) = []

abbrev pub field_steps : Place → Option Binding → Option ValueType → List Step → List Step
field_steps place None type arg = failure NameUnknown place
field_steps place (Some (FieldName number kind)) type arg =
    arg ++ requirement (has_type (ElementType kind) type) TypeMismatch place ++ access_step (OfField number) Read place
field_steps place (Some other) type arg = failure TypeMismatch place

abbrev pub type_requirement : Option ValueType → Place → List Step
type_requirement type place = requirement (is_some type) TypeMismatch place

abbrev mutual
  pub steps_of : Environment → Expression → List Step
  steps_of environment (Number place value) = []
  steps_of environment (Name place name) = name_steps place (binding_of environment name)
  steps_of environment (Field place name arg) = field_steps place (binding_of environment name) (type_of environment arg) (steps_of environment arg)
  steps_of environment (Call place fun arg) = steps_of environment arg ++ type_requirement (type_of environment (Call place fun arg)) place
  steps_of environment (Towards place arg to) = steps_of environment arg ++ steps_of environment to ++ type_requirement (type_of environment (Towards place arg to)) place
  steps_of environment (Neg place arg) = steps_of environment arg ++ type_requirement (type_of environment (Neg place arg)) place
  steps_of environment (Not place arg) = steps_of environment arg ++ type_requirement (type_of environment (Not place arg)) place
  steps_of environment (Chain level first links) = steps_of environment first ++ link_steps environment (type_of environment first) links
  steps_of environment (Compare place rel left right) =
      steps_of environment left ++ steps_of environment right ++ type_requirement (type_of environment (Compare place rel left right)) place

  pub link_steps : Environment → Option ValueType → Links → List Step
  link_steps environment type no_links = []
  link_steps environment type (link sign place arg rest) =
      steps_of environment arg ++ type_requirement (operator_type sign type (type_of environment arg)) place
      ++ link_steps environment (operator_type sign type (type_of environment arg)) rest

-- the steps of an expression that must have a type; the test of a name that must be new
abbrev pub typed_steps : Environment → ValueType → Expression → List Step
typed_steps environment type e = steps_of environment e ++ requirement (has_type type (type_of environment e)) TypeMismatch (place_of e)

abbrev pub name_requirement : Environment → List ℕ → Place → List Step
name_requirement environment name at = requirement (not (is_some (binding_of environment name))) NameTwice at

-- THE STEPS OF A BODY. The environment after a statement: `var` and `val` declare a name up to the end of the block.
abbrev pub with_val : List ℕ → Option ValueType → Environment → Environment
with_val name (Some (ElementType kind)) environment = (name, ElementName kind) ∷ environment
with_val name _ environment = environment

abbrev pub environment_after : Environment → Statement → Environment
environment_after environment (Var place name at init) = (name, LocalName) ∷ environment
environment_after environment (Val place name at init) = with_val name (type_of environment init) environment
environment_after environment _ = environment

abbrev pub val_steps : Option ValueType → Place → List Step
val_steps (Some (ElementType kind)) place = []
val_steps _ place = failure TypeMismatch place

-- an assignment to F(x), and to a name, with the steps of its target and of its value
abbrev pub field_target_steps : Place → How → Option Binding → Option ValueType → List Step → List Step → List Step
field_target_steps place how None type target value = failure NameUnknown place
field_target_steps place how (Some (FieldName number kind)) type target value =
    requirement (not (is_built_in number)) BuiltinWrite place ++ target ++ requirement (has_type (ElementType kind) type) TypeMismatch place
    ++ access_step (OfField number) (mode_by how) place ++ value
field_target_steps place how (Some other) type target value = failure TypeMismatch place

abbrev pub scalar_steps : Place → How → ℕ → List Step
scalar_steps place Set number = failure ScalarWrite place
scalar_steps place how number = access_step (OfScalar number) (mode_by how) place

abbrev pub name_target_steps : Place → How → Option Binding → List Step → List Step
name_target_steps place how None value = failure NameUnknown place
name_target_steps place how (Some (ScalarName number)) value = scalar_steps place how number ++ value
name_target_steps place how (Some LocalName) value = value
name_target_steps place how (Some other) value = failure TypeMismatch place

abbrev mutual
  pub statement_steps : Environment → Statement → List Step
  statement_steps environment (Var place name at init) = typed_steps environment NumberType init ++ name_requirement environment name at
  statement_steps environment (Val place name at init) = steps_of environment init ++ val_steps (type_of environment init) (place_of init) ++ name_requirement environment name at
  statement_steps environment (Assign place name (Some target) how value) =
      field_target_steps place how (binding_of environment name) (type_of environment target) (steps_of environment target) (typed_steps environment NumberType value)
  statement_steps environment (Assign place name None how value) = name_target_steps place how (binding_of environment name) (typed_steps environment NumberType value)
  statement_steps environment (If place test first second has_else) =
      typed_steps environment TruthType test ++ body_steps environment first ++ body_steps environment second
  statement_steps environment (While place test body) = typed_steps environment TruthType test ++ body_steps environment body
  statement_steps environment (For place name at set set_at arg body) =
      steps_of environment arg ++ requirement (has_members set (type_of environment arg)) TypeMismatch set_at ++ name_requirement environment name at
      ++ body_steps ((name, ElementName (kind_of set)) ∷ environment) body

  pub body_steps : Environment → Body → List Step
  body_steps environment no_statement = []
  body_steps environment (statement s rest) = statement_steps environment s ++ body_steps (environment_after environment s) rest

abbrev pub steps_in : Comprehension → List Step
steps_in c = body_steps ((c.name, ElementName c.over) ∷ c.environment) c.body

-- THE ACCESSES of a comprehension in the order of the walk, and the mode of a field or a scalar in it: that of its first access
abbrev pub access_of : Step → Option AccessAt
access_of (AccessStep access) = Some access
access_of (TestStep fault) = None

abbrev pub accesses_of : Comprehension → List AccessAt
accesses_of c = filter_map access_of (steps_in c)

abbrev pub mode_in : Comprehension → Subject → Option Mode
mode_in c subject = option_map (λ access. access.mode) (find (λ access. is_subject subject access.subject) (accesses_of c))

-- the mode by the numbers of the comprehension and of the field or scalar
abbrev pub mode_of : Main → ℕ → ℕ → Option Mode
mode_of program k field = option_and_then (λ c. mode_in c (OfField field)) (comprehension_of program k)

abbrev pub scalar_mode_of : Main → ℕ → ℕ → Option Mode
scalar_mode_of program k scalar = option_and_then (λ c. mode_in c (OfScalar scalar)) (comprehension_of program k)

-- THE FAULTS OF STEPS. An access is a conflict if an earlier access of the comprehension to the same field or scalar has a different
-- mode; the fault also names the place of the first access to it.
abbrev pub conflict_place : AccessAt → List AccessAt → Option Place
conflict_place access [] = None
conflict_place access (other ∷ rest) =
    if list_any (λ earlier. not (is_mode access.mode earlier.mode)) (other ∷ rest) then Some other.place else None

abbrev pub conflict : List AccessAt → AccessAt → Option ProgramFault
conflict earlier access =
    option_map (λ first. record { what = PhaseConflict; place = access.place; first = Some first })
    (conflict_place access (filter (λ other. is_subject access.subject other.subject) earlier))

abbrev pub faults_in_steps : List AccessAt → List Step → List (Option ProgramFault)
faults_in_steps earlier [] = []
faults_in_steps earlier (TestStep fault ∷ steps) = fault ∷ faults_in_steps earlier steps
faults_in_steps earlier (AccessStep access ∷ steps) = conflict earlier access ∷ faults_in_steps (earlier ++ access ∷ []) steps

-- in the main program accesses have no phase
abbrev pub faults_in_main : List Step → List (Option ProgramFault)
faults_in_main steps = map fault_of_test steps where
  fault_of_test : Step → Option ProgramFault
  fault_of_test (TestStep fault) = fault
  fault_of_test (AccessStep access) = None

-- THE FAULTS OF THE MAIN PROGRAM, in the order of the walk
abbrev pub main_target_steps : Place → Option Binding → List Step → List Step
main_target_steps place None value = failure NameUnknown place
main_target_steps place (Some (ScalarName number)) value = value
main_target_steps place (Some other) value = failure TypeMismatch place

abbrev mutual
  pub faults_in_item : Site → MainItem → List (Option ProgramFault)
  faults_in_item site (MainField place name at kind init) = faults_in_main (typed_steps site.environment NumberType init ++ name_requirement site.environment name at)
  faults_in_item site (MainVar place name at init) = faults_in_main (typed_steps site.environment NumberType init ++ name_requirement site.environment name at)
  faults_in_item site (MainAssign place name how value) =
      faults_in_main (main_target_steps place (binding_of site.environment name) (typed_steps site.environment NumberType value))
  faults_in_item site (MainIf place test first second has_else) =
      faults_in_main (typed_steps site.environment TruthType test) ++ faults_in_items (block_start site) first
      ++ faults_in_items (block_start (after_block site (after_main (block_start site) first))) second
  faults_in_item site (MainWhile place test body) = faults_in_main (typed_steps site.environment TruthType test) ++ faults_in_items (block_start site) body
  faults_in_item site (MainFor place name at over body) =
      faults_in_main (name_requirement site.environment name at) ++ faults_in_steps [] (steps_in (comprehension_at site name over body))
  faults_in_item site (Print place value) = faults_in_main (typed_steps site.environment NumberType value)

  pub faults_in_items : Site → Main → List (Option ProgramFault)
  faults_in_items site no_item = []
  faults_in_items site (item i rest) = faults_in_item site i ++ faults_in_items (after_item site i) rest

-- THE FAULT of a program is the first of its walk, if there is one.
abbrev pub check_fault : Main → Option ProgramFault
check_fault program = option_and_then (λ fault. fault) (find is_some (faults_in_items start program))
