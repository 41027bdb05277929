-- The accesses and the visits of resolved code, by its variants.
use Rattle.std.proofs.Common.{◌≡◌, ℕ, ◌+◌, List, [], ◌++◌, map, Bool, sym, ap, ◌∙◌}
use Rattle.std.specs.Prelude.{Option, ℤ}
use Rattle.std.specs.List.{slice_set}
use Rattle.liszt_base.specs.MeshLists.{MeshLists}
use Rattle.liszt_base.specs.declared.accesses.Access.{Access}
use Rattle.liszt_base.specs.declared.accesses.Mode.TheVariants.{Read}
use Rattle.liszt_base.specs.declared.answers.Place.{Place}
use Rattle.liszt_base.specs.declared.elements.Elem.{Elem}
use Rattle.liszt_base.specs.declared.elements.SetName.{SetName}
use Rattle.liszt_tree.specs.declared.tree.How.{How}
use Rattle.liszt_tree.specs.declared.tree.Rel.{Rel}
use Rattle.resolved_code.specs.declared.expressions.ElementCode.{ElementCode, fold-roll-ElementCode}
use Rattle.resolved_code.specs.declared.expressions.ElementCode.TheOpen.{ElementCode-F}
use Rattle.resolved_code.specs.declared.expressions.ElementCode.TheVariants as element
use Rattle.resolved_code.specs.declared.expressions.ElementFun.{ElementFun}
use Rattle.resolved_code.specs.declared.expressions.NumberCode.{NumberCode, fold-roll-NumberCode}
use Rattle.resolved_code.specs.declared.expressions.NumberCode.TheOpen.{NumberCode-F}
use Rattle.resolved_code.specs.declared.expressions.NumberCode.TheVariants as number
use Rattle.resolved_code.specs.declared.expressions.NumberLink.{NumberLink, fold-roll-NumberLink}
use Rattle.resolved_code.specs.declared.expressions.TruthCode.{TruthCode, fold-roll-TruthCode}
use Rattle.resolved_code.specs.declared.expressions.TruthCode.TheOpen.{TruthCode-F}
use Rattle.resolved_code.specs.declared.expressions.TruthCode.TheVariants as truth
use Rattle.resolved_code.specs.declared.expressions.TruthLink.{TruthLink, fold-roll-TruthLink}
use Rattle.resolved_code.specs.declared.statements.StatementCode.{StatementCode, fold-roll-StatementCode}
use Rattle.resolved_code.specs.declared.statements.StatementCode.TheOpen.{StatementCode-F}
use Rattle.resolved_code.specs.declared.statements.StatementCode.TheVariants as code
use Rattle.topo_operators.specs.Operators.{towards, members}
use Rattle.phase_types.specs.Walk.{mode_by}
use Rattle.stencil_infer.specs.Internal.CodeAccesses.{Slots, Walk, and_then, called, code_walk, element_layer, element_of, element_visits, element_visits_layer, at_element, in_slot, joined, members_walk, over_nil, total}
use Rattle.stencil_infer.specs.Internal.CodeAccesses.{number_accesses, number_layer, number_link_accesses, number_link_layer, number_link_visits, number_visits, number_visits_layer, visits_of_number_link}
use Rattle.stencil_infer.specs.Internal.CodeAccesses.{statement_layer, statement_walk, truth_accesses, truth_layer, truth_link_accesses, truth_link_layer, truth_link_visits, truth_visits, truth_visits_layer, visits_of_truth_link}

module _ (mesh : MeshLists) (slots : Slots) where
  pub element_slot : (slot : ℕ) → element_of mesh slots (element.Slot slot) ≡ in_slot slots slot
  element_slot slot = ap (element_of mesh slots) (sym (element.rolls-Slot slot)) ∙ fold-roll-ElementCode (Option Elem) (element_layer mesh slots) (ElementCode-F.Slot slot)

  pub element_call : (fun : ElementFun) (arg : ElementCode) → element_of mesh slots (element.Call fun arg) ≡ called mesh fun (element_of mesh slots arg)
  element_call fun arg = ap (element_of mesh slots) (sym (element.rolls-Call fun arg)) ∙ fold-roll-ElementCode (Option Elem) (element_layer mesh slots) (ElementCode-F.Call fun arg)

  pub element_towards : (arg : ElementCode) (to : ElementCode) → element_of mesh slots (element.Towards arg to) ≡ towards mesh (element_of mesh slots arg) (element_of mesh slots to)
  element_towards arg to = ap (element_of mesh slots) (sym (element.rolls-Towards arg to)) ∙ fold-roll-ElementCode (Option Elem) (element_layer mesh slots) (ElementCode-F.Towards arg to)

  pub number_constant : (value : ℤ) → number_accesses mesh slots (number.Constant value) ≡ []
  number_constant value = ap (number_accesses mesh slots) (sym (number.rolls-Constant value)) ∙ fold-roll-NumberCode (List Access) (List Access) (number_layer mesh slots) number_link_layer (NumberCode-F.Constant value)

  pub number_local : (slot : ℕ) → number_accesses mesh slots (number.Local slot) ≡ []
  number_local slot = ap (number_accesses mesh slots) (sym (number.rolls-Local slot)) ∙ fold-roll-NumberCode (List Access) (List Access) (number_layer mesh slots) number_link_layer (NumberCode-F.Local slot)

  pub number_scalar : (scalar : ℕ) → number_accesses mesh slots (number.Scalar scalar) ≡ []
  number_scalar scalar = ap (number_accesses mesh slots) (sym (number.rolls-Scalar scalar)) ∙ fold-roll-NumberCode (List Access) (List Access) (number_layer mesh slots) number_link_layer (NumberCode-F.Scalar scalar)

  pub number_field : (place : Place) (field : ℕ) (arg : ElementCode) → number_accesses mesh slots (number.Field place field arg) ≡ at_element Read field (element_of mesh slots arg)
  number_field place field arg = ap (number_accesses mesh slots) (sym (number.rolls-Field place field arg)) ∙ fold-roll-NumberCode (List Access) (List Access) (number_layer mesh slots) number_link_layer (NumberCode-F.Field place field arg)

  pub number_id : (place : Place) (arg : ElementCode) → number_accesses mesh slots (number.Id place arg) ≡ []
  number_id place arg = ap (number_accesses mesh slots) (sym (number.rolls-Id place arg)) ∙ fold-roll-NumberCode (List Access) (List Access) (number_layer mesh slots) number_link_layer (NumberCode-F.Id place arg)

  pub number_neg : (place : Place) (arg : NumberCode) → number_accesses mesh slots (number.Neg place arg) ≡ number_accesses mesh slots arg
  number_neg place arg = ap (number_accesses mesh slots) (sym (number.rolls-Neg place arg)) ∙ fold-roll-NumberCode (List Access) (List Access) (number_layer mesh slots) number_link_layer (NumberCode-F.Neg place arg)

  pub number_chain : (first : NumberCode) (rest : List NumberLink) → number_accesses mesh slots (number.Chain first rest) ≡ number_accesses mesh slots first ++ joined (map (number_link_accesses mesh slots) rest)
  number_chain first rest = ap (number_accesses mesh slots) (sym (number.rolls-Chain first rest)) ∙ fold-roll-NumberCode (List Access) (List Access) (number_layer mesh slots) number_link_layer (NumberCode-F.Chain first rest)

  pub truth_valid : (arg : ElementCode) → truth_accesses mesh slots (truth.Valid arg) ≡ []
  truth_valid arg = ap (truth_accesses mesh slots) (sym (truth.rolls-Valid arg)) ∙ fold-roll-TruthCode (List Access) (List Access) (truth_layer mesh slots) truth_link_layer (TruthCode-F.Valid arg)

  pub truth_not : (arg : TruthCode) → truth_accesses mesh slots (truth.Not arg) ≡ truth_accesses mesh slots arg
  truth_not arg = ap (truth_accesses mesh slots) (sym (truth.rolls-Not arg)) ∙ fold-roll-TruthCode (List Access) (List Access) (truth_layer mesh slots) truth_link_layer (TruthCode-F.Not arg)

  pub truth_chain : (first : TruthCode) (rest : List TruthLink) → truth_accesses mesh slots (truth.Chain first rest) ≡ truth_accesses mesh slots first ++ joined (map (truth_link_accesses mesh slots) rest)
  truth_chain first rest = ap (truth_accesses mesh slots) (sym (truth.rolls-Chain first rest)) ∙ fold-roll-TruthCode (List Access) (List Access) (truth_layer mesh slots) truth_link_layer (TruthCode-F.Chain first rest)

  pub truth_comparenumbers : (rel : Rel) (left : NumberCode) (right : NumberCode) → truth_accesses mesh slots (truth.CompareNumbers rel left right) ≡ number_accesses mesh slots left ++ number_accesses mesh slots right
  truth_comparenumbers rel left right = ap (truth_accesses mesh slots) (sym (truth.rolls-CompareNumbers rel left right)) ∙ fold-roll-TruthCode (List Access) (List Access) (truth_layer mesh slots) truth_link_layer (TruthCode-F.CompareNumbers rel left right)

  pub truth_compareelements : (is_equal : Bool) (left : ElementCode) (right : ElementCode) → truth_accesses mesh slots (truth.CompareElements is_equal left right) ≡ []
  truth_compareelements is_equal left right = ap (truth_accesses mesh slots) (sym (truth.rolls-CompareElements is_equal left right)) ∙ fold-roll-TruthCode (List Access) (List Access) (truth_layer mesh slots) truth_link_layer (TruthCode-F.CompareElements is_equal left right)

  pub number_link_is : (l : NumberLink) → number_link_accesses mesh slots l ≡ number_accesses mesh slots l.arg
  number_link_is l = fold-roll-NumberLink (List Access) (List Access) (number_layer mesh slots) number_link_layer (record { op = l.op; place = l.place; arg = l.arg })

  pub truth_link_is : (l : TruthLink) → truth_link_accesses mesh slots l ≡ truth_accesses mesh slots l.arg
  truth_link_is l = fold-roll-TruthLink (List Access) (List Access) (truth_layer mesh slots) truth_link_layer (record { op = l.op; arg = l.arg })

pub visits_element_slot : (slot : ℕ) → element_visits (element.Slot slot) ≡ 1
visits_element_slot slot = ap (element_visits) (sym (element.rolls-Slot slot)) ∙ fold-roll-ElementCode ℕ element_visits_layer (ElementCode-F.Slot slot)

pub visits_element_call : (fun : ElementFun) (arg : ElementCode) → element_visits (element.Call fun arg) ≡ 1 + element_visits arg
visits_element_call fun arg = ap (element_visits) (sym (element.rolls-Call fun arg)) ∙ fold-roll-ElementCode ℕ element_visits_layer (ElementCode-F.Call fun arg)

pub visits_element_towards : (arg : ElementCode) (to : ElementCode) → element_visits (element.Towards arg to) ≡ 1 + element_visits arg + element_visits to
visits_element_towards arg to = ap (element_visits) (sym (element.rolls-Towards arg to)) ∙ fold-roll-ElementCode ℕ element_visits_layer (ElementCode-F.Towards arg to)

pub visits_number_constant : (value : ℤ) → number_visits (number.Constant value) ≡ 1
visits_number_constant value = ap (number_visits) (sym (number.rolls-Constant value)) ∙ fold-roll-NumberCode ℕ ℕ number_visits_layer number_link_visits (NumberCode-F.Constant value)

pub visits_number_local : (slot : ℕ) → number_visits (number.Local slot) ≡ 1
visits_number_local slot = ap (number_visits) (sym (number.rolls-Local slot)) ∙ fold-roll-NumberCode ℕ ℕ number_visits_layer number_link_visits (NumberCode-F.Local slot)

pub visits_number_scalar : (scalar : ℕ) → number_visits (number.Scalar scalar) ≡ 1
visits_number_scalar scalar = ap (number_visits) (sym (number.rolls-Scalar scalar)) ∙ fold-roll-NumberCode ℕ ℕ number_visits_layer number_link_visits (NumberCode-F.Scalar scalar)

pub visits_number_field : (place : Place) (field : ℕ) (arg : ElementCode) → number_visits (number.Field place field arg) ≡ 1 + element_visits arg
visits_number_field place field arg = ap (number_visits) (sym (number.rolls-Field place field arg)) ∙ fold-roll-NumberCode ℕ ℕ number_visits_layer number_link_visits (NumberCode-F.Field place field arg)

pub visits_number_id : (place : Place) (arg : ElementCode) → number_visits (number.Id place arg) ≡ 1 + element_visits arg
visits_number_id place arg = ap (number_visits) (sym (number.rolls-Id place arg)) ∙ fold-roll-NumberCode ℕ ℕ number_visits_layer number_link_visits (NumberCode-F.Id place arg)

pub visits_number_neg : (place : Place) (arg : NumberCode) → number_visits (number.Neg place arg) ≡ 1 + number_visits arg
visits_number_neg place arg = ap (number_visits) (sym (number.rolls-Neg place arg)) ∙ fold-roll-NumberCode ℕ ℕ number_visits_layer number_link_visits (NumberCode-F.Neg place arg)

pub visits_number_chain : (first : NumberCode) (rest : List NumberLink) → number_visits (number.Chain first rest) ≡ 1 + number_visits first + total (map visits_of_number_link rest)
visits_number_chain first rest = ap (number_visits) (sym (number.rolls-Chain first rest)) ∙ fold-roll-NumberCode ℕ ℕ number_visits_layer number_link_visits (NumberCode-F.Chain first rest)

pub visits_truth_valid : (arg : ElementCode) → truth_visits (truth.Valid arg) ≡ 1 + element_visits arg
visits_truth_valid arg = ap (truth_visits) (sym (truth.rolls-Valid arg)) ∙ fold-roll-TruthCode ℕ ℕ truth_visits_layer truth_link_visits (TruthCode-F.Valid arg)

pub visits_truth_not : (arg : TruthCode) → truth_visits (truth.Not arg) ≡ 1 + truth_visits arg
visits_truth_not arg = ap (truth_visits) (sym (truth.rolls-Not arg)) ∙ fold-roll-TruthCode ℕ ℕ truth_visits_layer truth_link_visits (TruthCode-F.Not arg)

pub visits_truth_chain : (first : TruthCode) (rest : List TruthLink) → truth_visits (truth.Chain first rest) ≡ 1 + truth_visits first + total (map visits_of_truth_link rest)
visits_truth_chain first rest = ap (truth_visits) (sym (truth.rolls-Chain first rest)) ∙ fold-roll-TruthCode ℕ ℕ truth_visits_layer truth_link_visits (TruthCode-F.Chain first rest)

pub visits_truth_comparenumbers : (rel : Rel) (left : NumberCode) (right : NumberCode) → truth_visits (truth.CompareNumbers rel left right) ≡ 1 + number_visits left + number_visits right
visits_truth_comparenumbers rel left right = ap (truth_visits) (sym (truth.rolls-CompareNumbers rel left right)) ∙ fold-roll-TruthCode ℕ ℕ truth_visits_layer truth_link_visits (TruthCode-F.CompareNumbers rel left right)

pub visits_truth_compareelements : (is_equal : Bool) (left : ElementCode) (right : ElementCode) → truth_visits (truth.CompareElements is_equal left right) ≡ 1 + element_visits left + element_visits right
visits_truth_compareelements is_equal left right = ap (truth_visits) (sym (truth.rolls-CompareElements is_equal left right)) ∙ fold-roll-TruthCode ℕ ℕ truth_visits_layer truth_link_visits (TruthCode-F.CompareElements is_equal left right)

pub visits_number_link_is : (l : NumberLink) → visits_of_number_link l ≡ number_visits l.arg
visits_number_link_is l = fold-roll-NumberLink ℕ ℕ number_visits_layer number_link_visits (record { op = l.op; place = l.place; arg = l.arg })

pub visits_truth_link_is : (l : TruthLink) → visits_of_truth_link l ≡ truth_visits l.arg
visits_truth_link_is l = fold-roll-TruthLink ℕ ℕ truth_visits_layer truth_link_visits (record { op = l.op; arg = l.arg })

module _ (mesh : MeshLists) (slots : Slots) where
  pub walk_var : (slot : ℕ) (init : NumberCode) → statement_walk mesh (code.Var slot init) slots
      ≡ record { accesses = number_accesses mesh slots init; visits = 1 + number_visits init; slots = slots }
  walk_var slot init = ap (λ code. statement_walk mesh code slots) (sym (code.rolls-Var slot init)) ∙ ap (λ walk. walk slots) (fold-roll-StatementCode (Slots → Walk) (statement_layer mesh) (StatementCode-F.Var slot init))

  pub walk_val : (slot : ℕ) (init : ElementCode) → statement_walk mesh (code.Val slot init) slots
      ≡ record { accesses = []; visits = 1 + element_visits init; slots = slice_set slots slot (element_of mesh slots init) }
  walk_val slot init = ap (λ code. statement_walk mesh code slots) (sym (code.rolls-Val slot init)) ∙ ap (λ walk. walk slots) (fold-roll-StatementCode (Slots → Walk) (statement_layer mesh) (StatementCode-F.Val slot init))

  pub walk_local : (slot : ℕ) (how : How) (value : NumberCode) → statement_walk mesh (code.Local slot how value) slots
      ≡ record { accesses = number_accesses mesh slots value; visits = 1 + number_visits value; slots = slots }
  walk_local slot how value = ap (λ code. statement_walk mesh code slots) (sym (code.rolls-Local slot how value)) ∙ ap (λ walk. walk slots) (fold-roll-StatementCode (Slots → Walk) (statement_layer mesh) (StatementCode-F.Local slot how value))

  pub walk_scalar : (scalar : ℕ) (how : How) (value : NumberCode) → statement_walk mesh (code.Scalar scalar how value) slots
      ≡ record { accesses = number_accesses mesh slots value; visits = 1 + number_visits value; slots = slots }
  walk_scalar scalar how value = ap (λ code. statement_walk mesh code slots) (sym (code.rolls-Scalar scalar how value)) ∙ ap (λ walk. walk slots) (fold-roll-StatementCode (Slots → Walk) (statement_layer mesh) (StatementCode-F.Scalar scalar how value))

  pub walk_field : (place : Place) (field : ℕ) (how : How) (target : ElementCode) (value : NumberCode) → statement_walk mesh (code.Field place field how target value) slots
      ≡ record {
        accesses = number_accesses mesh slots value ++ at_element (mode_by how) field (element_of mesh slots target);
        visits = 1 + number_visits value + element_visits target;
        slots = slots;
      }
  walk_field place field how target value = ap (λ code. statement_walk mesh code slots) (sym (code.rolls-Field place field how target value)) ∙ ap (λ walk. walk slots) (fold-roll-StatementCode (Slots → Walk) (statement_layer mesh) (StatementCode-F.Field place field how target value))

  pub walk_if : (test : TruthCode) (first : List StatementCode) (second : List StatementCode) → statement_walk mesh (code.If test first second) slots
      ≡ and_then (and_then (record { accesses = truth_accesses mesh slots test; visits = 1 + truth_visits test; slots = slots }) (code_walk mesh first)) (code_walk mesh second)
  walk_if test first second = ap (λ code. statement_walk mesh code slots) (sym (code.rolls-If test first second)) ∙ ap (λ walk. walk slots) (fold-roll-StatementCode (Slots → Walk) (statement_layer mesh) (StatementCode-F.If test first second))

  pub walk_while : (place : Place) (test : TruthCode) (body : List StatementCode) → statement_walk mesh (code.While place test body) slots
      ≡ and_then (record { accesses = truth_accesses mesh slots test; visits = 1 + truth_visits test; slots = slots }) (code_walk mesh body)
  walk_while place test body = ap (λ code. statement_walk mesh code slots) (sym (code.rolls-While place test body)) ∙ ap (λ walk. walk slots) (fold-roll-StatementCode (Slots → Walk) (statement_layer mesh) (StatementCode-F.While place test body))

  pub walk_for : (slot : ℕ) (set : SetName) (place : Place) (arg : ElementCode) (body : List StatementCode) → statement_walk mesh (code.For slot set place arg body) slots
      ≡ and_then (record { accesses = []; visits = 1 + element_visits arg; slots = slots })
      (members_walk slot (code_walk mesh body) (over_nil (members mesh set) (element_of mesh slots arg)))
  walk_for slot set place arg body = ap (λ code. statement_walk mesh code slots) (sym (code.rolls-For slot set place arg body)) ∙ ap (λ walk. walk slots) (fold-roll-StatementCode (Slots → Walk) (statement_layer mesh) (StatementCode-F.For slot set place arg body))
