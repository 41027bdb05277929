-- Which programs are typed. This project's own; that a field has one mode in a comprehension is the Liszt paper's (DeVito et al.,
-- Supercomputing 2011).
use Rattle.std.specs.Prelude.{◌≡◌, ℕ, Bool, true, false, Some, None, List, [], ◌∷◌}
use Rattle.std.specs.List.{AllByRecursion}
use Rattle.liszt_base.specs.Kinds.{has_set, kind_of}
use Rattle.liszt_base.specs.declared.answers.Place.{Place}
use Rattle.liszt_base.specs.declared.elements.Kind.{Kind}
use Rattle.liszt_base.specs.declared.elements.SetName.{SetName}
use Rattle.liszt_tree.specs.declared.tree.How.{How}
use Rattle.liszt_tree.specs.declared.tree.How.TheVariants.{Set, Fold, Less}
use Rattle.liszt_tree.specs.Tree.{Expression, Statement, Var, Val, Assign, If, While, For, Body, no_statement, statement}
use Rattle.liszt_tree.specs.Tree.{MainItem, MainField, MainVar, MainAssign, MainIf, MainWhile, MainFor, Print, Main, no_item, item}
use Rattle.phase_types.specs.Environments.{Environment, FieldName, ScalarName, LocalName, ElementName, binding_of, is_built_in, Comprehension, Site, start, after_item, comprehension_at, block_start, after_block, after_main}
use Rattle.phase_types.specs.Types.{NumberType, TruthType, ElementType, HasType}
use Rattle.phase_types.specs.Walk.{AccessAt, accesses_of, is_subject}

abbrev pub IsNew : Environment → List ℕ → Type 0
IsNew environment name = binding_of environment name ≡ None

-- an assignment by an operator, and not by `=`
abbrev pub IsReduction : How → Type 0
IsReduction Set = ⊥
IsReduction (Fold op) = Unit {0}
IsReduction Less = Unit {0}

-- STATEMENTS, each with the environment at entry and the one after it, and bodies
mutual
  pub data StatementFits : Environment → Statement → Environment → Type 0 where
    FitsVar : {environment : Environment} {init : Expression} (place : Place) (name : List ℕ) (at : Place) → HasType environment init NumberType → IsNew environment name
        → StatementFits environment (Var place name at init) ((name, LocalName) ∷ environment)
    FitsVal : {environment : Environment} {kind : Kind} {init : Expression} (place : Place) (name : List ℕ) (at : Place) → HasType environment init (ElementType kind)
        → IsNew environment name → StatementFits environment (Val place name at init) ((name, ElementName kind) ∷ environment)
    FitsField : {environment : Environment} {number : ℕ} {kind : Kind} {target set_to : Expression} (place : Place) (name : List ℕ) (how : How)
        → binding_of environment name ≡ Some (FieldName number kind) → is_built_in number ≡ false → HasType environment target (ElementType kind)
        → HasType environment set_to NumberType → StatementFits environment (Assign place name (Some target) how set_to) environment
    FitsScalar : {environment : Environment} {number : ℕ} {set_to : Expression} (place : Place) (name : List ℕ) (how : How)
        → binding_of environment name ≡ Some (ScalarName number) → IsReduction how → HasType environment set_to NumberType
        → StatementFits environment (Assign place name None how set_to) environment
    FitsLocal : {environment : Environment} {set_to : Expression} (place : Place) (name : List ℕ) (how : How) → binding_of environment name ≡ Some LocalName
        → HasType environment set_to NumberType → StatementFits environment (Assign place name None how set_to) environment
    FitsIf : {environment : Environment} {test : Expression} {first second : Body} (place : Place) (has_else : Bool) → HasType environment test TruthType
        → BodyFits environment first → BodyFits environment second → StatementFits environment (If place test first second has_else) environment
    FitsWhile : {environment : Environment} {test : Expression} {body : Body} (place : Place) → HasType environment test TruthType → BodyFits environment body
        → StatementFits environment (While place test body) environment
    FitsFor : {environment : Environment} {kind : Kind} {arg : Expression} {body : Body} (place : Place) (name : List ℕ) (at : Place) (set : SetName) (set_at : Place)
        → HasType environment arg (ElementType kind) → has_set kind set ≡ true → IsNew environment name → BodyFits ((name, ElementName (kind_of set)) ∷ environment) body
        → StatementFits environment (For place name at set set_at arg body) environment

  pub data BodyFits : Environment → Body → Type 0 where
    FitsNothing : (environment : Environment) → BodyFits environment no_statement
    FitsThen : {environment after_environment : Environment} {s : Statement} {rest : Body} → StatementFits environment s after_environment → BodyFits after_environment rest
        → BodyFits environment (statement s rest)

-- ONE MODE: two accesses to the same field or scalar have the same mode.
abbrev pub AgreesWith : AccessAt → AccessAt → Type 0
AgreesWith access other = is_subject access.subject other.subject ≡ true → access.mode ≡ other.mode

abbrev pub HaveOneMode : List AccessAt → Type 0
HaveOneMode [] = Unit {0}
HaveOneMode (access ∷ rest) = AllByRecursion (AgreesWith access) rest × HaveOneMode rest

pub record ComprehensionFits (c : Comprehension) : Type 0 where
  pub body_fits : BodyFits ((c.name, ElementName c.over) ∷ c.environment) c.body
  pub one_mode : HaveOneMode (accesses_of c)

-- ITEMS of the main program at their sites, and programs
mutual
  pub data ItemFits : Site → MainItem → Type 0 where
    FitsMainField : {site : Site} {init : Expression} (place : Place) (name : List ℕ) (at : Place) (kind : Kind) → HasType site.environment init NumberType
        → IsNew site.environment name → ItemFits site (MainField place name at kind init)
    FitsMainVar : {site : Site} {init : Expression} (place : Place) (name : List ℕ) (at : Place) → HasType site.environment init NumberType
        → IsNew site.environment name → ItemFits site (MainVar place name at init)
    FitsMainAssign : {site : Site} {number : ℕ} {set_to : Expression} (place : Place) (name : List ℕ) (how : How)
        → binding_of site.environment name ≡ Some (ScalarName number) → HasType site.environment set_to NumberType → ItemFits site (MainAssign place name how set_to)
    FitsMainIf : {site : Site} {test : Expression} {first second : Main} (place : Place) (has_else : Bool) → HasType site.environment test TruthType
        → MainFits (block_start site) first → MainFits (block_start (after_block site (after_main (block_start site) first))) second
        → ItemFits site (MainIf place test first second has_else)
    FitsMainWhile : {site : Site} {test : Expression} {body : Main} (place : Place) → HasType site.environment test TruthType → MainFits (block_start site) body
        → ItemFits site (MainWhile place test body)
    FitsMainFor : {site : Site} {body : Body} (place : Place) (name : List ℕ) (at : Place) (over : Kind) → IsNew site.environment name
        → ComprehensionFits (comprehension_at site name over body) → ItemFits site (MainFor place name at over body)
    FitsPrint : {site : Site} {value : Expression} (place : Place) → HasType site.environment value NumberType → ItemFits site (Print place value)

  pub data MainFits : Site → Main → Type 0 where
    FitsNoItem : (site : Site) → MainFits site no_item
    FitsItems : {site : Site} {i : MainItem} {rest : Main} → ItemFits site i → MainFits (after_item site i) rest → MainFits site (item i rest)

abbrev pub IsTyped : Main → Type 0
IsTyped program = MainFits start program
