-- Resolved statements fit the kinds of the slots of their comprehension.
use Rattle.std.proofs.Common.{◌≡◌, ℕ, List, [], ◌∷◌, ◌++◌, length, Bool, true, false, refl, sym, ap, subst, ◌∙◌, inl, inr}
use Rattle.std.proofs.lemmas.List.{append-nil, append_assoc}
use Rattle.std.specs.Prelude.{Option, Some, None, slice_get, Ok, if◌then◌else◌}
use Rattle.liszt_base.specs.Kinds.{has_set, is_kind, kind_of as kind_of_set}
use Rattle.liszt_base.specs.declared.answers.Place.{Place}
use Rattle.liszt_base.specs.declared.answers.ProgramWhat.TheVariants.{TypeMismatch}
use Rattle.liszt_base.specs.declared.elements.Kind.{Kind}
use Rattle.liszt_base.specs.declared.elements.Kind.TheVariants.{Vertex, Edge, Face, Cell}
use Rattle.liszt_base.specs.declared.elements.SetName.{SetName}
use Rattle.liszt_tree.specs.declared.tree.How.{How}
use Rattle.liszt_tree.specs.Tree.{Expression, Statement, Var, Val, Assign, If, While, For, Body, no_statement, statement}
use Rattle.resolved_code.specs.declared.expressions.ElementCode.{ElementCode}
use Rattle.resolved_code.specs.declared.expressions.NumberCode.{NumberCode}
use Rattle.resolved_code.specs.declared.expressions.TruthCode.{TruthCode}
use Rattle.resolved_code.specs.declared.statements.StatementCode.{StatementCode}
use Rattle.resolved_code.specs.declared.statements.StatementCode.TheVariants as code
use Rattle.phase_types.specs.declared.frame.Frame.{Frame}
use Rattle.phase_types.specs.declared.resolution.Resolution.TheVariants as resolution
use Rattle.phase_types.specs.declared.resolution.TypedCode.{TypedCode}
use Rattle.phase_types.specs.declared.resolution.TypedCode.TheVariants as typed
use Rattle.phase_types.specs.Resolve.{◌>>=◌, fails, Names, Accesses, number_in, truth_in, element_in, element_with_set, resolved_expression, resolved_number, resolved_truth, resolved_element, with_accesses, with_element, element_name, resolved_statement, resolved_body}
use Rattle.phase_types.specs.Walk.{place_of}
use Rattle.stencil_infer.specs.Internal.CodeAccesses.{kind_of, number_fits, truth_fits, are_same_kind, may_have_set, statement_fits, code_fits}
use Rattle.stencil_infer.proofs.CodeExpressionLemmas.{bound, ok_is, is_number, is_truth}
use Rattle.stencil_infer.proofs.CodeStatementLemmas.{in_names}
use Rattle.stencil_infer.proofs.CodeStepLemmas.{Resolved, Block, var_steps, val_steps, field_steps, NameSteps, ScalarSteps, LocalSteps, name_steps, if_steps, while_steps, for_steps, body_steps}
use Rattle.stencil_infer.proofs.FitClauseLemmas.{fits_statement_var, fits_statement_val, fits_statement_local, fits_statement_scalar, fits_statement_field, fits_statement_if, fits_statement_while, fits_statement_for}
use Rattle.stencil_infer.proofs.FitExpressionLemmas.{both_true, HasKinds, FitsKinds, of_kind, expression_fits}

-- a list of kinds and further ones
pub record Extends (before after : List Kind) : Type 0 where
  pub new : List Kind
  pub is : after ≡ before ++ new

pub extends_itself : (kinds : List Kind) → Extends kinds kinds
extends_itself kinds = record { new = []; is = sym (append-nil kinds) }

extends_later : {a b c : List Kind} → Extends a b → Extends b c → Extends a c
extends_later {a = a} h g = record { new = h.new ++ g.new; is = g.is ∙ ap (λ b. b ++ g.new) h.is ∙ append_assoc a h.new g.new }

extends_one : (kinds : List Kind) (kind : Kind) → Extends kinds (kinds ++ kind ∷ [])
extends_one kinds kind = record { new = kind ∷ []; is = refl }

extended : {n : List Kind} (x r : Resolved) → x ≡ r → Extends n x.2.elements → Extends n r.2.elements
extended {n} x r is h = subst (λ (r : Resolved). Extends n r.2.elements) is h

mutual
  statement_extends : (names : Names) (frame : Frame) (s : Statement) (r : Resolved) → resolved_statement names frame s ≡ Ok r → Extends frame.elements r.2.elements
  statement_extends names frame (Var place name at init) r e = let x = var_steps names frame name at init r e in extended _ r x.result (extends_itself frame.elements)
  statement_extends names frame (Val place name at init) r e =
      let x = val_steps names frame name at init r e in extended _ r x.result (extends_one frame.elements x.value.0.0)
  statement_extends names frame (Assign place name (Some target) how value) r e =
      let x = field_steps names frame place name how target value r e in extended _ r x.result (extends_itself frame.elements)
  statement_extends names frame (Assign place name None how value) r e = go (name_steps names frame place name how value r e) where
    go : NameSteps names frame how value r → Extends frame.elements r.2.elements
    go (ScalarSteps scalar later operand is result) = extended _ r result (extends_itself frame.elements)
    go (LocalSteps slot operand is result) = extended _ r result (extends_itself frame.elements)
  statement_extends names frame (If place test first second has_else) r e =
      let x = if_steps names frame place test first second has_else r e in
      extended _ r x.result
      (extends_later (body_extends names (with_accesses x.condition.1 frame) [] first x.block x.block_is) (body_extends names x.block.1 [] second x.other x.other_is))
  statement_extends names frame (While place test body) r e =
      let x = while_steps names frame place test body r e in
      extended _ r x.result (body_extends names (with_accesses x.condition.1 frame) [] body x.block x.block_is)
  statement_extends names frame (For place name at set set_at arg body) r e =
      let x = for_steps names frame place name at set set_at arg body r e in
      extended _ r x.result
      (extends_later (extends_one frame.elements (kind_of_set set))
      (body_extends (names ++ element_name name (kind_of_set set) frame ∷ []) (with_element (kind_of_set set) (with_accesses x.operand.1 frame)) [] body x.block x.block_is))

  pub body_extends : (names : Names) (frame : Frame) (done : List StatementCode) (body : Body) (r : Block) → resolved_body names frame done body ≡ Ok r
      → Extends frame.elements r.1.elements
  body_extends names frame done no_statement r e = subst (λ (r : Block). Extends frame.elements r.1.elements) (ok_is (done, frame) r e) (extends_itself frame.elements)
  body_extends names frame done (statement s rest) r e =
      let x = body_steps names frame done s rest r e in
      extends_later (statement_extends names frame s x.first x.first_is) (body_extends x.first.1 x.first.2 (done ++ x.first.0 ∷ []) rest r x.rest_is)

-- the kind of a new slot
next_kind : (before rest : List Kind) (kind : Kind) → slice_get ((before ++ kind ∷ []) ++ rest) (length before) ≡ Some kind
next_kind [] rest kind = refl
next_kind (k ∷ before) rest kind = next_kind before rest kind

new_kind : (before kinds : List Kind) (kind : Kind) → Extends (before ++ kind ∷ []) kinds → slice_get kinds (length before) ≡ Some kind
new_kind before kinds kind h = ap (λ kinds. slice_get kinds (length before)) h.is ∙ next_kind before h.new kind

itself : (kind : Kind) → is_kind kind kind ≡ true
itself Vertex = refl
itself Edge = refl
itself Face = refl
itself Cell = refl

same_kinds : (a b : Option Kind) (kind : Kind) → a ≡ Some kind → b ≡ Some kind → are_same_kind a b ≡ true
same_kinds a b kind e f = ap (λ a. are_same_kind a b) e ∙ ap (are_same_kind (Some kind)) f ∙ itself kind

no_element : (k slot : ℕ) (kind : Kind) → resolution.Number k ≡ resolution.Element slot kind → ⊥
no_element k slot kind e = cc

same_slot : (n slot : ℕ) (kind other : Kind) → resolution.Element n kind ≡ resolution.Element slot other → n ≡ slot
same_slot n slot kind other e = cc

same_kind : (n slot : ℕ) (kind other : Kind) → resolution.Element n kind ≡ resolution.Element slot other → kind ≡ other
same_kind n slot kind other e = cc

has_number : {names : Names} {kinds : List Kind} (name : List ℕ) (k : ℕ) → HasKinds names kinds → HasKinds (names ++ (name, resolution.Number k) ∷ []) kinds
has_number {names = names} name k h = record {
  has_kind_of = λ other slot kind e. elim (in_names names (name, resolution.Number k) other (resolution.Element slot kind) e) [
    | inl is ↦ h.has_kind_of other slot kind is
    | inr is ↦ absurd (no_element k slot kind is.1)
  ];
}

pub has_element : {names : Names} {kinds : List Kind} (name : List ℕ) (n : ℕ) (kind : Kind) → slice_get kinds n ≡ Some kind → HasKinds names kinds
    → HasKinds (names ++ (name, resolution.Element n kind) ∷ []) kinds
has_element {names = names} {kinds = kinds} name n kind at h = record {
  has_kind_of = λ other slot kind' e. elim (in_names names (name, resolution.Element n kind) other (resolution.Element slot kind') e) [
    | inl is ↦ h.has_kind_of other slot kind' is
    | inr is ↦ ap (slice_get kinds) (sym (same_slot n slot kind kind' is.1)) ∙ at ∙ ap Some (same_kind n slot kind kind' is.1)
  ];
}

-- VALUES
module _ {names : Names} {kinds : List Kind} (has : HasKinds names kinds) where
  number_fit : (e : Expression) (accesses : Accesses) (value : NumberCode × Accesses) → resolved_number names accesses e ≡ Ok value → number_fits kinds value.0 ≡ true
  number_fit e accesses value is =
      let operand = bound (resolved_expression names accesses e) (λ operand. number_in (place_of e) operand.0 >>= λ value. Ok (value, operand.1)) value is in
      let found = bound (number_in (place_of e) operand.0.0) (λ value. Ok (value, operand.0.1)) value operand.2 in
      let same : operand.0.0 ≡ typed.Number value.0 =
      is_number (place_of e) operand.0.0 found.0 found.1 ∙ ap (λ (v : NumberCode × Accesses). typed.Number v.0) (ok_is (found.0, operand.0.1) value found.2) in
      subst (FitsKinds kinds) same (expression_fits kinds names has e accesses operand.0 operand.1)

  truth_fit : (e : Expression) (accesses : Accesses) (value : TruthCode × Accesses) → resolved_truth names accesses e ≡ Ok value → truth_fits kinds value.0 ≡ true
  truth_fit e accesses value is =
      let operand = bound (resolved_expression names accesses e) (λ operand. truth_in (place_of e) operand.0 >>= λ value. Ok (value, operand.1)) value is in
      let found = bound (truth_in (place_of e) operand.0.0) (λ value. Ok (value, operand.0.1)) value operand.2 in
      let same : operand.0.0 ≡ typed.Truth value.0 =
      is_truth (place_of e) operand.0.0 found.0 found.1 ∙ ap (λ (v : TruthCode × Accesses). typed.Truth v.0) (ok_is (found.0, operand.0.1) value found.2) in
      subst (FitsKinds kinds) same (expression_fits kinds names has e accesses operand.0 operand.1)

  is_element : (place : Place) (value : TypedCode) (pair : Kind × ElementCode) → element_in place value ≡ Ok pair → value ≡ typed.Element pair.0 pair.1
  is_element place (typed.Element kind code) pair e = ap (λ (p : Kind × ElementCode). typed.Element p.0 p.1) (ok_is (kind, code) pair e)
  is_element place (typed.Number code) pair e = absurd cc
  is_element place (typed.Truth code) pair e = absurd cc

  element_fit : (e : Expression) (accesses : Accesses) (value : (Kind × ElementCode) × Accesses) → resolved_element names accesses e ≡ Ok value → kind_of kinds value.0.1 ≡ Some value.0.0
  element_fit e accesses value is =
      let operand = bound (resolved_expression names accesses e) (λ operand. element_in (place_of e) operand.0 >>= λ value. Ok (value, operand.1)) value is in
      let found = bound (element_in (place_of e) operand.0.0) (λ value. Ok (value, operand.0.1)) value operand.2 in
      let same : operand.0.0 ≡ typed.Element value.0.0 value.0.1 =
      is_element (place_of e) operand.0.0 found.0 found.1
      ∙ ap (λ (v : (Kind × ElementCode) × Accesses). typed.Element v.0.0 v.0.1) (ok_is (found.0, operand.0.1) value found.2) in
      subst (FitsKinds kinds) same (expression_fits kinds names has e accesses operand.0 operand.1)

  origin_fit : (set : SetName) (place : Place) (operand : TypedCode) (origin : ElementCode) → FitsKinds kinds operand → element_with_set set place operand ≡ Ok origin
      → may_have_set set (kind_of kinds origin) ≡ true
  origin_fit set place (typed.Element kind code) origin h is = go (has_set kind set) refl is where
    go : (can : Bool) → has_set kind set ≡ can → (if can then Ok code else fails TypeMismatch place) ≡ Ok origin → may_have_set set (kind_of kinds origin) ≡ true
    go true can is = subst (λ origin. may_have_set set (kind_of kinds origin) ≡ true) (ok_is code origin is) (ap (may_have_set set) h ∙ can)
    go false can is = absurd cc
  origin_fit set place (typed.Number code) origin h is = absurd cc
  origin_fit set place (typed.Truth code) origin h is = absurd cc

-- STATEMENTS
module _ (kinds : List Kind) where
  abbrev Fit : Resolved → Type 0
  Fit r = (statement_fits kinds r.0 ≡ true) × HasKinds r.1 kinds

  pub record BodyFit (done : List StatementCode) (r : Block) : Type 0 where
    pub new : List StatementCode
    pub appended : r.0 ≡ done ++ new
    pub fits : code_fits kinds new ≡ true

  pub block_fit : {r : Block} → BodyFit [] r → code_fits kinds r.0 ≡ true
  block_fit h = ap (code_fits kinds) h.appended ∙ h.fits

  within : (x r : Resolved) → x ≡ r → Extends r.2.elements kinds → Extends x.2.elements kinds
  within x r is h = subst (λ (r : Resolved). Extends r.2.elements kinds) (sym is) h

  name_fit : (names : Names) (frame : Frame) (how : How) (value : Expression) (r : Resolved) → HasKinds names kinds → NameSteps names frame how value r → Fit r
  name_fit names frame how value r has (ScalarSteps scalar later operand is result) =
      subst Fit result (fits_statement_scalar kinds scalar how operand.0 ∙ number_fit has value later operand is, has)
  name_fit names frame how value r has (LocalSteps slot operand is result) =
      subst Fit result (fits_statement_local kinds slot how operand.0 ∙ number_fit has value frame.accesses operand is, has)

  mutual
    statement_fit : (names : Names) (frame : Frame) (s : Statement) (r : Resolved) → HasKinds names kinds → Extends r.2.elements kinds → resolved_statement names frame s ≡ Ok r → Fit r
    statement_fit names frame (Var place name at init) r has l e =
        let x = var_steps names frame name at init r e in
        subst Fit x.result
        (fits_statement_var kinds frame.numbers x.value.0 ∙ number_fit has init frame.accesses x.value x.value_is, has_number name frame.numbers has)
    statement_fit names frame (Val place name at init) r has l e =
        let x = val_steps names frame name at init r e in
        let at_slot : slice_get kinds (length frame.elements) ≡ Some x.value.0.0 = new_kind frame.elements kinds x.value.0.0 (within _ r x.result l) in
        subst Fit x.result (
          fits_statement_val kinds (length frame.elements) x.value.0.1
              ∙ same_kinds (slice_get kinds (length frame.elements)) (kind_of kinds x.value.0.1) x.value.0.0 at_slot (element_fit has init frame.accesses x.value x.value_is),
          has_element name (length frame.elements) x.value.0.0 at_slot has,
        )
    statement_fit names frame (Assign place name (Some target) how value) r has l e =
        let x = field_steps names frame place name how target value r e in
        subst Fit x.result (
          fits_statement_field kinds place x.field how x.at_element x.new_value.0
              ∙ both_true (number_fit has value x.later x.new_value x.value_is)
              (of_kind kinds names has x.kind place x.operand.0 x.at_element (expression_fits kinds names has target frame.accesses x.operand x.operand_is) x.element_is),
          has,
        )
    statement_fit names frame (Assign place name None how value) r has l e = name_fit names frame how value r has (name_steps names frame place name how value r e)
    statement_fit names frame (If place test first second has_else) r has l e =
        let x = if_steps names frame place test first second has_else r e in
        let m : Extends x.other.1.elements kinds = within (code.If x.condition.0 x.block.0 x.other.0, names, x.other.1) r x.result l in
        let f = block_fit (body_fit names (with_accesses x.condition.1 frame) [] first x.block has (extends_later (body_extends names x.block.1 [] second x.other x.other_is) m) x.block_is) in
        let g = block_fit (body_fit names x.block.1 [] second x.other has m x.other_is) in
        subst Fit x.result
        (fits_statement_if kinds x.condition.0 x.block.0 x.other.0 ∙ both_true (truth_fit has test frame.accesses x.condition x.condition_is) (both_true f g), has)
    statement_fit names frame (While place test body) r has l e =
        let x = while_steps names frame place test body r e in
        let m : Extends x.block.1.elements kinds = within (code.While place x.condition.0 x.block.0, names, x.block.1) r x.result l in
        let f = block_fit (body_fit names (with_accesses x.condition.1 frame) [] body x.block has m x.block_is) in
        subst Fit x.result (fits_statement_while kinds place x.condition.0 x.block.0 ∙ both_true (truth_fit has test frame.accesses x.condition x.condition_is) f, has)
    statement_fit names frame (For place name at set set_at arg body) r has l e =
        let x = for_steps names frame place name at set set_at arg body r e in
        let kind : Kind = kind_of_set set in
        let inner : Frame = with_element kind (with_accesses x.operand.1 frame) in
        let m : Extends x.block.1.elements kinds = within (code.For (length frame.elements) set set_at x.origin x.block.0, names, x.block.1) r x.result l in
        let at_slot : slice_get kinds (length frame.elements) ≡ Some kind =
        new_kind frame.elements kinds kind (extends_later (body_extends (names ++ element_name name kind frame ∷ []) inner [] body x.block x.block_is) m) in
        let f = block_fit (body_fit (names ++ element_name name kind frame ∷ []) inner [] body x.block (has_element name (length frame.elements) kind at_slot has) m x.block_is) in
        subst Fit x.result (
          fits_statement_for kinds (length frame.elements) set set_at x.origin x.block.0
              ∙ both_true (origin_fit has set set_at x.operand.0 x.origin (expression_fits kinds names has arg frame.accesses x.operand x.operand_is) x.origin_is)
              (both_true (same_kinds (slice_get kinds (length frame.elements)) (Some kind) kind at_slot refl) f),
          has,
        )

    pub body_fit : (names : Names) (frame : Frame) (done : List StatementCode) (body : Body) (r : Block) → HasKinds names kinds → Extends r.1.elements kinds
        → resolved_body names frame done body ≡ Ok r → BodyFit done r
    body_fit names frame done no_statement r has l e =
        record { new = []; appended = sym (ap (λ (r : Block). r.0) (ok_is (done, frame) r e)) ∙ sym (append-nil done); fits = refl }
    body_fit names frame done (statement s rest) r has l e =
        let x = body_steps names frame done s rest r e in
        let h = statement_fit names frame s x.first has (extends_later (body_extends x.first.1 x.first.2 (done ++ x.first.0 ∷ []) rest r x.rest_is) l) x.first_is in
        let g = body_fit x.first.1 x.first.2 (done ++ x.first.0 ∷ []) rest r h.1 l x.rest_is in
        record { new = x.first.0 ∷ g.new; appended = g.appended ∙ append_assoc done (x.first.0 ∷ []) g.new; fits = both_true h.0 g.fits }
