-- Which resolved code fits the kinds of the slots, by its variants.
use Rattle.std.proofs.Common.{◌≡◌, ◌&&◌, ℕ, List, map, Bool, true, sym, ap, ◌∙◌}
use Rattle.std.specs.Prelude.{Some, ℤ, slice_get}
use Rattle.liszt_base.specs.Kinds.{kind_of as kind_of_set}
use Rattle.liszt_base.specs.declared.answers.Place.{Place}
use Rattle.liszt_base.specs.declared.elements.Kind.{Kind}
use Rattle.liszt_base.specs.declared.elements.SetName.{SetName}
use Rattle.liszt_tree.specs.declared.tree.How.{How}
use Rattle.liszt_tree.specs.declared.tree.Rel.{Rel}
use Rattle.resolved_code.specs.declared.expressions.ElementCode.{ElementCode}
use Rattle.resolved_code.specs.declared.expressions.NumberCode.{NumberCode, fold-roll-NumberCode}
use Rattle.resolved_code.specs.declared.expressions.NumberCode.TheOpen.{NumberCode-F}
use Rattle.resolved_code.specs.declared.expressions.NumberCode.TheVariants as number
use Rattle.resolved_code.specs.declared.expressions.NumberLink.{NumberLink, fold-roll-NumberLink}
use Rattle.resolved_code.specs.declared.expressions.TruthCode.{TruthCode, fold-roll-TruthCode}
use Rattle.resolved_code.specs.declared.expressions.TruthCode.TheOpen.{TruthCode-F}
use Rattle.resolved_code.specs.declared.expressions.TruthCode.TheVariants as truth
use Rattle.resolved_code.specs.declared.expressions.TruthLink.{TruthLink, fold-roll-TruthLink}
use Rattle.resolved_code.specs.declared.statements.StatementCode.{StatementCode, fold-roll-StatementCode}
use Rattle.resolved_code.specs.declared.statements.StatementCode.TheOpen.{StatementCode-F}
use Rattle.resolved_code.specs.declared.statements.StatementCode.TheVariants as code
use Rattle.stencil_infer.specs.Internal.CodeAccesses.{kind_of, has_kind, all_fit, number_fits_layer, number_link_fits, number_fits, fits_of_number_link, truth_fits_layer, truth_link_fits, truth_fits, fits_of_truth_link, are_same_kind, may_have_set, statement_fits_layer, statement_fits, code_fits}

module _ (kinds : List Kind) where
  pub fits_number_constant : (value : ℤ) → number_fits kinds (number.Constant value) ≡ true
  fits_number_constant value = ap (number_fits kinds) (sym (number.rolls-Constant value)) ∙ fold-roll-NumberCode Bool Bool (number_fits_layer kinds) number_link_fits (NumberCode-F.Constant value)

  pub fits_number_local : (slot : ℕ) → number_fits kinds (number.Local slot) ≡ true
  fits_number_local slot = ap (number_fits kinds) (sym (number.rolls-Local slot)) ∙ fold-roll-NumberCode Bool Bool (number_fits_layer kinds) number_link_fits (NumberCode-F.Local slot)

  pub fits_number_scalar : (scalar : ℕ) → number_fits kinds (number.Scalar scalar) ≡ true
  fits_number_scalar scalar = ap (number_fits kinds) (sym (number.rolls-Scalar scalar)) ∙ fold-roll-NumberCode Bool Bool (number_fits_layer kinds) number_link_fits (NumberCode-F.Scalar scalar)

  pub fits_number_field : (place : Place) (field : ℕ) (arg : ElementCode) → number_fits kinds (number.Field place field arg) ≡ has_kind kinds arg
  fits_number_field place field arg = ap (number_fits kinds) (sym (number.rolls-Field place field arg)) ∙ fold-roll-NumberCode Bool Bool (number_fits_layer kinds) number_link_fits (NumberCode-F.Field place field arg)

  pub fits_number_id : (place : Place) (arg : ElementCode) → number_fits kinds (number.Id place arg) ≡ has_kind kinds arg
  fits_number_id place arg = ap (number_fits kinds) (sym (number.rolls-Id place arg)) ∙ fold-roll-NumberCode Bool Bool (number_fits_layer kinds) number_link_fits (NumberCode-F.Id place arg)

  pub fits_number_neg : (place : Place) (arg : NumberCode) → number_fits kinds (number.Neg place arg) ≡ number_fits kinds arg
  fits_number_neg place arg = ap (number_fits kinds) (sym (number.rolls-Neg place arg)) ∙ fold-roll-NumberCode Bool Bool (number_fits_layer kinds) number_link_fits (NumberCode-F.Neg place arg)

  pub fits_number_chain : (first : NumberCode) (rest : List NumberLink) → number_fits kinds (number.Chain first rest) ≡ (number_fits kinds first && all_fit (map (fits_of_number_link kinds) rest))
  fits_number_chain first rest = ap (number_fits kinds) (sym (number.rolls-Chain first rest)) ∙ fold-roll-NumberCode Bool Bool (number_fits_layer kinds) number_link_fits (NumberCode-F.Chain first rest)

  pub fits_truth_valid : (arg : ElementCode) → truth_fits kinds (truth.Valid arg) ≡ has_kind kinds arg
  fits_truth_valid arg = ap (truth_fits kinds) (sym (truth.rolls-Valid arg)) ∙ fold-roll-TruthCode Bool Bool (truth_fits_layer kinds) truth_link_fits (TruthCode-F.Valid arg)

  pub fits_truth_not : (arg : TruthCode) → truth_fits kinds (truth.Not arg) ≡ truth_fits kinds arg
  fits_truth_not arg = ap (truth_fits kinds) (sym (truth.rolls-Not arg)) ∙ fold-roll-TruthCode Bool Bool (truth_fits_layer kinds) truth_link_fits (TruthCode-F.Not arg)

  pub fits_truth_chain : (first : TruthCode) (rest : List TruthLink) → truth_fits kinds (truth.Chain first rest) ≡ (truth_fits kinds first && all_fit (map (fits_of_truth_link kinds) rest))
  fits_truth_chain first rest = ap (truth_fits kinds) (sym (truth.rolls-Chain first rest)) ∙ fold-roll-TruthCode Bool Bool (truth_fits_layer kinds) truth_link_fits (TruthCode-F.Chain first rest)

  pub fits_truth_comparenumbers : (rel : Rel) (left : NumberCode) (right : NumberCode) → truth_fits kinds (truth.CompareNumbers rel left right) ≡ (number_fits kinds left && number_fits kinds right)
  fits_truth_comparenumbers rel left right = ap (truth_fits kinds) (sym (truth.rolls-CompareNumbers rel left right)) ∙ fold-roll-TruthCode Bool Bool (truth_fits_layer kinds) truth_link_fits (TruthCode-F.CompareNumbers rel left right)

  pub fits_truth_compareelements : (is_equal : Bool) (left : ElementCode) (right : ElementCode) → truth_fits kinds (truth.CompareElements is_equal left right) ≡ (has_kind kinds left && has_kind kinds right)
  fits_truth_compareelements is_equal left right = ap (truth_fits kinds) (sym (truth.rolls-CompareElements is_equal left right)) ∙ fold-roll-TruthCode Bool Bool (truth_fits_layer kinds) truth_link_fits (TruthCode-F.CompareElements is_equal left right)

  pub fits_statement_var : (slot : ℕ) (init : NumberCode) → statement_fits kinds (code.Var slot init) ≡ number_fits kinds init
  fits_statement_var slot init = ap (statement_fits kinds) (sym (code.rolls-Var slot init)) ∙ fold-roll-StatementCode Bool (statement_fits_layer kinds) (StatementCode-F.Var slot init)

  pub fits_statement_val : (slot : ℕ) (init : ElementCode) → statement_fits kinds (code.Val slot init) ≡ are_same_kind (slice_get kinds slot) (kind_of kinds init)
  fits_statement_val slot init = ap (statement_fits kinds) (sym (code.rolls-Val slot init)) ∙ fold-roll-StatementCode Bool (statement_fits_layer kinds) (StatementCode-F.Val slot init)

  pub fits_statement_local : (slot : ℕ) (how : How) (value : NumberCode) → statement_fits kinds (code.Local slot how value) ≡ number_fits kinds value
  fits_statement_local slot how value = ap (statement_fits kinds) (sym (code.rolls-Local slot how value)) ∙ fold-roll-StatementCode Bool (statement_fits_layer kinds) (StatementCode-F.Local slot how value)

  pub fits_statement_scalar : (scalar : ℕ) (how : How) (value : NumberCode) → statement_fits kinds (code.Scalar scalar how value) ≡ number_fits kinds value
  fits_statement_scalar scalar how value = ap (statement_fits kinds) (sym (code.rolls-Scalar scalar how value)) ∙ fold-roll-StatementCode Bool (statement_fits_layer kinds) (StatementCode-F.Scalar scalar how value)

  pub fits_statement_field : (place : Place) (field : ℕ) (how : How) (target : ElementCode) (value : NumberCode) → statement_fits kinds (code.Field place field how target value) ≡ (number_fits kinds value && has_kind kinds target)
  fits_statement_field place field how target value = ap (statement_fits kinds) (sym (code.rolls-Field place field how target value)) ∙ fold-roll-StatementCode Bool (statement_fits_layer kinds) (StatementCode-F.Field place field how target value)

  pub fits_statement_if : (test : TruthCode) (first : List StatementCode) (second : List StatementCode) → statement_fits kinds (code.If test first second) ≡ (truth_fits kinds test && (code_fits kinds first && code_fits kinds second))
  fits_statement_if test first second = ap (statement_fits kinds) (sym (code.rolls-If test first second)) ∙ fold-roll-StatementCode Bool (statement_fits_layer kinds) (StatementCode-F.If test first second)

  pub fits_statement_while : (place : Place) (test : TruthCode) (body : List StatementCode) → statement_fits kinds (code.While place test body) ≡ (truth_fits kinds test && code_fits kinds body)
  fits_statement_while place test body = ap (statement_fits kinds) (sym (code.rolls-While place test body)) ∙ fold-roll-StatementCode Bool (statement_fits_layer kinds) (StatementCode-F.While place test body)

  pub fits_statement_for : (slot : ℕ) (set : SetName) (place : Place) (arg : ElementCode) (body : List StatementCode) → statement_fits kinds (code.For slot set place arg body) ≡ (may_have_set set (kind_of kinds arg) && (are_same_kind (slice_get kinds slot) (Some (kind_of_set set)) && code_fits kinds body))
  fits_statement_for slot set place arg body = ap (statement_fits kinds) (sym (code.rolls-For slot set place arg body)) ∙ fold-roll-StatementCode Bool (statement_fits_layer kinds) (StatementCode-F.For slot set place arg body)

  pub fits_number_link : (l : NumberLink) → fits_of_number_link kinds l ≡ number_fits kinds l.arg
  fits_number_link l = fold-roll-NumberLink Bool Bool (number_fits_layer kinds) number_link_fits (record { op = l.op; place = l.place; arg = l.arg })

  pub fits_truth_link : (l : TruthLink) → fits_of_truth_link kinds l ≡ truth_fits kinds l.arg
  fits_truth_link l = fold-roll-TruthLink Bool Bool (truth_fits_layer kinds) truth_link_fits (record { op = l.op; arg = l.arg })
