-- The code of a main program, item by item. This project's own.
use Rattle.std.specs.Prelude.{◌≡◌, ◌⊎◌, ℕ, Bool, true, false, Some, None, List, [], ◌∷◌, ℤ, Err}
use Rattle.liszt_base.specs.MeshLists.{MeshLists}
use Rattle.liszt_base.specs.declared.answers.Place.{Place}
use Rattle.liszt_base.specs.declared.elements.Kind.{Kind}
use Rattle.liszt_tree.specs.declared.tree.How.{How}
use Rattle.liszt_tree.specs.Tree.{Expression, Body, MainField, MainVar, MainAssign, MainIf, MainWhile, MainFor, Print, Main, no_item, item}
use Rattle.resolved_code.specs.declared.expressions.NumberCode.{NumberCode}
use Rattle.resolved_code.specs.declared.expressions.TruthCode.{TruthCode}
use Rattle.resolved_code.specs.declared.items.ItemCode.{ItemCode}
use Rattle.resolved_code.specs.declared.items.ItemCode.TheVariants as code
use Rattle.phase_types.specs.Environments.{Environment, ScalarName, binding_of, Part, IsPrefix, Site, next_field, next_scalar, next_comprehension, next_scope, block_start, after_block, has_else_block, after_item, after_main}
use Rattle.code_eval.specs.Stops.{NoMeaning}
use Rattle.kernel_eval.specs.Meaning.{number_in, truth_in}
use Rattle.kernel_eval.specs.HeldFields.{HoldsScalars}
use Rattle.kernel_eval.specs.States.{State, main_evaluation}
use Rattle.seq_meaning.specs.MainValues.{Answer, main_number, main_truth}

-- THE CODE OF AN EXPRESSION gives the answer of the expression, wherever that has a meaning.
abbrev pub IsAnswerOf : {A : Type 0} → Answer A → Answer A → Type 0
IsAnswerOf of_tree of_code = (of_tree ≡ Err NoMeaning) ⊎ (of_tree ≡ of_code)

pub record IsNumberCode (environment : Environment) (e : Expression) (x : NumberCode) : Type 0 where
  pub answer : (mesh : MeshLists) (s : State) (scalars : List ℤ) → HoldsScalars s scalars
      → IsAnswerOf (number_in mesh environment e (main_evaluation s)).answer (main_number scalars x)

pub record IsTruthCode (environment : Environment) (e : Expression) (x : TruthCode) : Type 0 where
  pub answer : (mesh : MeshLists) (s : State) (scalars : List ℤ) → HoldsScalars s scalars
      → IsAnswerOf (truth_in mesh environment e (main_evaluation s)).answer (main_truth scalars x)

-- THE CODE OF ITEMS at a site of a program with these parts
pub data IsCode (parts : List Part) : Site → Main → List ItemCode → Type 0 where
  NoCode : (site : Site) → IsCode parts site no_item []
  FieldCode : {site : Site} {rest : Main} {codes : List ItemCode} (place : Place) (name : List ℕ) (at : Place) (kind : Kind) {init : Expression} {x : NumberCode}
      → IsNumberCode site.environment init x → IsPrefix (after_item site (MainField place name at kind init)).parts parts
      → IsCode parts (after_item site (MainField place name at kind init)) rest codes
      → IsCode parts site (item (MainField place name at kind init) rest) (code.Field (next_field site) x ∷ codes)
  VarCode : {site : Site} {rest : Main} {codes : List ItemCode} (place : Place) (name : List ℕ) (at : Place) {init : Expression} {x : NumberCode}
      → IsNumberCode site.environment init x → IsPrefix (after_item site (MainVar place name at init)).parts parts
      → IsCode parts (after_item site (MainVar place name at init)) rest codes
      → IsCode parts site (item (MainVar place name at init) rest) (code.Var (next_scalar site) x ∷ codes)
  AssignCode : {site : Site} {rest : Main} {codes : List ItemCode} (place : Place) (name : List ℕ) (how : How) (scalar : ℕ) {value : Expression} {x : NumberCode}
      → binding_of site.environment name ≡ Some (ScalarName scalar) → IsNumberCode site.environment value x
      → IsCode parts site rest codes → IsCode parts site (item (MainAssign place name how value) rest) (code.Assign scalar how x ∷ codes)
  IfCode : {site : Site} {rest first second : Main} {codes first_codes : List ItemCode} (place : Place) (has_else : Bool) {test : Expression} {x : TruthCode}
      → IsTruthCode site.environment test x → IsCode parts (block_start site) first first_codes → has_else_block second has_else ≡ false
      → IsCode parts (after_item site (MainIf place test first second has_else)) rest codes
      → IsCode parts site (item (MainIf place test first second has_else) rest)
      (code.If x (record { scope = next_scope site; items = first_codes }) None ∷ codes)
  IfElseCode : {site : Site} {rest first second : Main} {codes first_codes second_codes : List ItemCode} (place : Place) (has_else : Bool) {test : Expression} {x : TruthCode}
      → IsTruthCode site.environment test x → IsCode parts (block_start site) first first_codes → has_else_block second has_else ≡ true
      → IsCode parts (block_start (after_block site (after_main (block_start site) first))) second second_codes
      → IsCode parts (after_item site (MainIf place test first second has_else)) rest codes
      → IsCode parts site (item (MainIf place test first second has_else) rest)
      (code.If x (record { scope = next_scope site; items = first_codes })
      (Some (record { scope = next_scope (after_block site (after_main (block_start site) first)); items = second_codes })) ∷ codes)
  WhileCode : {site : Site} {rest body : Main} {codes body_codes : List ItemCode} (place : Place) {test : Expression} {x : TruthCode}
      → IsTruthCode site.environment test x → IsCode parts (block_start site) body body_codes
      → IsCode parts (after_item site (MainWhile place test body)) rest codes
      → IsCode parts site (item (MainWhile place test body) rest) (code.While place x (record { scope = next_scope site; items = body_codes }) ∷ codes)
  ForCode : {site : Site} {rest : Main} {codes : List ItemCode} (place : Place) (name : List ℕ) (at : Place) (over : Kind) (body : Body)
      → IsPrefix (after_item site (MainFor place name at over body)).parts parts
      → IsCode parts (after_item site (MainFor place name at over body)) rest codes
      → IsCode parts site (item (MainFor place name at over body) rest) (code.For (next_comprehension site) ∷ codes)
  PrintCode : {site : Site} {rest : Main} {codes : List ItemCode} (place : Place) {value : Expression} {x : NumberCode}
      → IsNumberCode site.environment value x → IsCode parts site rest codes
      → IsCode parts site (item (Print place value) rest) (code.Print place x ∷ codes)
