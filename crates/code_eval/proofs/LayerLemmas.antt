-- The meaning of each form of code, by its parts.
use Rattle.std.proofs.Common.{◌≡◌, ℕ, List, map, get_or, rules}
use Rattle.std.specs.Option.{option_and_then}
use Rattle.std.specs.Prelude.{ℤ, Bool, Option, Some, None}
use Rattle.liszt_base.specs.MeshLists.{MeshLists}
use Rattle.liszt_base.specs.declared.answers.Place.{Place}
use Rattle.liszt_base.specs.declared.elements.Elem.{Elem}
use Rattle.liszt_base.specs.declared.elements.SetName.{SetName}
use Rattle.liszt_tree.specs.declared.tree.How.{How}
use Rattle.liszt_tree.specs.declared.tree.Rel.{Rel}
use Rattle.resolved_code.specs.declared.expressions.ElementCode.{ElementCode, the_lemmas as element_lemmas}
use Rattle.resolved_code.specs.declared.expressions.ElementCode.TheVariants as element
use Rattle.resolved_code.specs.declared.expressions.ElementFun.{ElementFun}
use Rattle.resolved_code.specs.declared.expressions.NumberCode.{NumberCode, the_lemmas as number_lemmas}
use Rattle.resolved_code.specs.declared.expressions.NumberCode.TheOpen.{NumberCode-F}
use Rattle.resolved_code.specs.declared.expressions.NumberCode.TheVariants as number
use Rattle.resolved_code.specs.declared.expressions.NumberLink.{NumberLink}
use Rattle.resolved_code.specs.declared.expressions.TruthCode.{TruthCode, the_lemmas as truth_lemmas}
use Rattle.resolved_code.specs.declared.expressions.TruthCode.TheOpen.{TruthCode-F}
use Rattle.resolved_code.specs.declared.expressions.TruthCode.TheVariants as truth
use Rattle.resolved_code.specs.declared.expressions.TruthLink.{TruthLink}
use Rattle.resolved_code.specs.declared.statements.StatementCode.{StatementCode, the_lemmas as statement_lemmas}
use Rattle.resolved_code.specs.declared.statements.StatementCode.TheOpen.{StatementCode-F}
use Rattle.resolved_code.specs.declared.statements.StatementCode.TheVariants as statement
use Rattle.code_eval.specs.Meaning.{element_call, element_value, towards_call, number_layer, number_execution, number_operand, truth_layer, truth_execution, truth_operand, statement_layer, statement_execution}

pub slot_is : (mesh : MeshLists) (elements : List (Option Elem)) (slot : ℕ) → element_value mesh elements (element.Slot slot) ≡ Some (get_or elements slot None)
slot_is mesh elements slot = search (rules, element_lemmas)

pub call_is : (mesh : MeshLists) (elements : List (Option Elem)) (fun : ElementFun) (arg : ElementCode)
    → element_value mesh elements (element.Call fun arg) ≡ option_and_then (element_call mesh fun) (element_value mesh elements arg)
call_is mesh elements fun arg = search (rules, element_lemmas)

pub towards_is : (mesh : MeshLists) (elements : List (Option Elem)) (arg to : ElementCode)
    → element_value mesh elements (element.Towards arg to) ≡ option_and_then (λ x. option_and_then (towards_call mesh x) (element_value mesh elements to)) (element_value mesh elements arg)
towards_is mesh elements arg to = search (rules, element_lemmas)

pub constant_is : (mesh : MeshLists) (value : ℤ) → number_execution mesh (number.Constant value) ≡ number_layer mesh (NumberCode-F.Constant value)
constant_is mesh value = search (rules, number_lemmas)

pub local_is : (mesh : MeshLists) (slot : ℕ) → number_execution mesh (number.Local slot) ≡ number_layer mesh (NumberCode-F.Local slot)
local_is mesh slot = search (rules, number_lemmas)

pub scalar_is : (mesh : MeshLists) (scalar : ℕ) → number_execution mesh (number.Scalar scalar) ≡ number_layer mesh (NumberCode-F.Scalar scalar)
scalar_is mesh scalar = search (rules, number_lemmas)

pub field_is : (mesh : MeshLists) (place : Place) (field : ℕ) (arg : ElementCode) → number_execution mesh (number.Field place field arg) ≡ number_layer mesh (NumberCode-F.Field place field arg)
field_is mesh place field arg = search (rules, number_lemmas)

pub id_is : (mesh : MeshLists) (place : Place) (arg : ElementCode) → number_execution mesh (number.Id place arg) ≡ number_layer mesh (NumberCode-F.Id place arg)
id_is mesh place arg = search (rules, number_lemmas)

pub neg_is : (mesh : MeshLists) (place : Place) (arg : NumberCode) → number_execution mesh (number.Neg place arg) ≡ number_layer mesh (NumberCode-F.Neg place (number_execution mesh arg))
neg_is mesh place arg = search (rules, number_lemmas)

pub chain_is : (mesh : MeshLists) (first : NumberCode) (rest : List NumberLink) → number_execution mesh (number.Chain first rest) ≡ number_layer mesh (NumberCode-F.Chain (number_execution mesh first) (map (number_operand mesh) rest))
chain_is mesh first rest = search (rules, number_lemmas)

pub valid_is : (mesh : MeshLists) (arg : ElementCode) → truth_execution mesh (truth.Valid arg) ≡ truth_layer mesh (TruthCode-F.Valid arg)
valid_is mesh arg = search (rules, truth_lemmas)

pub not_is : (mesh : MeshLists) (arg : TruthCode) → truth_execution mesh (truth.Not arg) ≡ truth_layer mesh (TruthCode-F.Not (truth_execution mesh arg))
not_is mesh arg = search (rules, truth_lemmas)

pub truth_chain_is : (mesh : MeshLists) (first : TruthCode) (rest : List TruthLink) → truth_execution mesh (truth.Chain first rest) ≡ truth_layer mesh (TruthCode-F.Chain (truth_execution mesh first) (map (truth_operand mesh) rest))
truth_chain_is mesh first rest = search (rules, truth_lemmas)

pub compare_numbers_is : (mesh : MeshLists) (rel : Rel) (left : NumberCode) (right : NumberCode) → truth_execution mesh (truth.CompareNumbers rel left right) ≡ truth_layer mesh (TruthCode-F.CompareNumbers rel left right)
compare_numbers_is mesh rel left right = search (rules, truth_lemmas)

pub compare_elements_is : (mesh : MeshLists) (is_equal : Bool) (left : ElementCode) (right : ElementCode) → truth_execution mesh (truth.CompareElements is_equal left right) ≡ truth_layer mesh (TruthCode-F.CompareElements is_equal left right)
compare_elements_is mesh is_equal left right = search (rules, truth_lemmas)

pub var_is : (mesh : MeshLists) (slot : ℕ) (init : NumberCode) → statement_execution mesh (statement.Var slot init) ≡ statement_layer mesh (StatementCode-F.Var slot init)
var_is mesh slot init = search (rules, statement_lemmas)

pub val_is : (mesh : MeshLists) (slot : ℕ) (init : ElementCode) → statement_execution mesh (statement.Val slot init) ≡ statement_layer mesh (StatementCode-F.Val slot init)
val_is mesh slot init = search (rules, statement_lemmas)

pub assign_local_is : (mesh : MeshLists) (slot : ℕ) (how : How) (value : NumberCode) → statement_execution mesh (statement.Local slot how value) ≡ statement_layer mesh (StatementCode-F.Local slot how value)
assign_local_is mesh slot how value = search (rules, statement_lemmas)

pub assign_scalar_is : (mesh : MeshLists) (scalar : ℕ) (how : How) (value : NumberCode) → statement_execution mesh (statement.Scalar scalar how value) ≡ statement_layer mesh (StatementCode-F.Scalar scalar how value)
assign_scalar_is mesh scalar how value = search (rules, statement_lemmas)

pub assign_field_is : (mesh : MeshLists) (place : Place) (field : ℕ) (how : How) (target : ElementCode) (value : NumberCode) → statement_execution mesh (statement.Field place field how target value) ≡ statement_layer mesh (StatementCode-F.Field place field how target value)
assign_field_is mesh place field how target value = search (rules, statement_lemmas)

pub if_is : (mesh : MeshLists) (test : TruthCode) (first : List StatementCode) (second : List StatementCode) → statement_execution mesh (statement.If test first second) ≡ statement_layer mesh (StatementCode-F.If test (map (statement_execution mesh) first) (map (statement_execution mesh) second))
if_is mesh test first second = search (rules, statement_lemmas)

pub while_is : (mesh : MeshLists) (place : Place) (test : TruthCode) (body : List StatementCode) → statement_execution mesh (statement.While place test body) ≡ statement_layer mesh (StatementCode-F.While place test (map (statement_execution mesh) body))
while_is mesh place test body = search (rules, statement_lemmas)

pub for_is : (mesh : MeshLists) (slot : ℕ) (set : SetName) (place : Place) (arg : ElementCode) (body : List StatementCode) → statement_execution mesh (statement.For slot set place arg body) ≡ statement_layer mesh (StatementCode-F.For slot set place arg (map (statement_execution mesh) body))
for_is mesh slot set place arg body = search (rules, statement_lemmas)
