-- A resolved expression fits the kinds of the slots.
use Rattle.std.proofs.Common.{◌≡◌, ◌&&◌, ℕ, List, [], ◌∷◌, ◌++◌, map, Bool, true, false, refl, ap, subst, ◌∙◌}
use Rattle.std.proofs.lemmas.Bool.{and_parts}
use Rattle.std.specs.Prelude.{Option, Some, None, is_some, slice_get, Result, Ok, if◌then◌else◌}
use Rattle.liszt_base.specs.Kinds.{is_kind}
use Rattle.liszt_base.specs.declared.answers.Place.{Place}
use Rattle.liszt_base.specs.declared.answers.ProgramFault.{ProgramFault}
use Rattle.liszt_base.specs.declared.answers.ProgramWhat.TheVariants.{TypeMismatch}
use Rattle.liszt_base.specs.declared.accesses.Mode.TheVariants.{Read}
use Rattle.liszt_base.specs.declared.elements.Kind.{Kind}
use Rattle.liszt_base.specs.declared.elements.Kind.TheVariants.{Vertex, Edge, Face, Cell}
use Rattle.liszt_tree.specs.declared.tree.Fun.{Fun}
use Rattle.liszt_tree.specs.declared.tree.Fun.TheVariants.{Head, Tail, Inside, Outside, Flip, Valid, Id}
use Rattle.liszt_tree.specs.declared.tree.Rel.{Rel}
use Rattle.liszt_tree.specs.declared.tree.Sign.{Sign}
use Rattle.liszt_tree.specs.Tree.{Expression, Number, Name, Field, Call, Towards, Neg, Not, Chain, Compare, Links, no_links, link}
use Rattle.resolved_code.specs.declared.expressions.Arithmetic.{Arithmetic}
use Rattle.resolved_code.specs.declared.expressions.Connective.{Connective}
use Rattle.resolved_code.specs.declared.expressions.ElementCode.{ElementCode}
use Rattle.resolved_code.specs.declared.expressions.ElementCode.TheVariants as element
use Rattle.resolved_code.specs.declared.expressions.ElementFun.{ElementFun}
use Rattle.resolved_code.specs.declared.expressions.ElementFun.TheVariants as function
use Rattle.resolved_code.specs.declared.expressions.NumberCode.TheVariants as number
use Rattle.resolved_code.specs.declared.expressions.NumberLink.{NumberLink}
use Rattle.resolved_code.specs.declared.expressions.TruthCode.TheVariants as truth
use Rattle.resolved_code.specs.declared.expressions.TruthLink.{TruthLink}
use Rattle.phase_types.specs.declared.resolution.ChainCode.{ChainCode}
use Rattle.phase_types.specs.declared.resolution.ChainCode.TheVariants as chain
use Rattle.phase_types.specs.declared.resolution.Resolution.{Resolution}
use Rattle.phase_types.specs.declared.resolution.Resolution.TheVariants as resolution
use Rattle.phase_types.specs.declared.resolution.TypedCode.{TypedCode}
use Rattle.phase_types.specs.declared.resolution.TypedCode.TheVariants as typed
use Rattle.phase_types.specs.Resolve.{◌>>=◌, fails, Names, Accesses, resolution_of, with_access, resolved_name, named_field, element_of_kind, call_code, called_code, towards_code, is_equality, comparison_code, negated, inverted, arithmetic_of, connective_of, number_link, truth_link, first_of_chain, extended_chain, whole_chain, resolved_expression, resolved_links}
use Rattle.phase_types.specs.Types.{are_towards_kinds, is_sameness}
use Rattle.phase_types.specs.Walk.{OfField, OfScalar}
use Rattle.stencil_infer.specs.Internal.CodeAccesses.{kind_of, has_kind, call_kind, towards_kind, all_fit, number_fits, fits_of_number_link, truth_fits, fits_of_truth_link}
use Rattle.stencil_infer.proofs.CodeExpressionLemmas.{bound, ok_is}
use Rattle.stencil_infer.proofs.ElementKindLemmas.{kind_slot, kind_call, kind_towards}
use Rattle.stencil_infer.proofs.FitClauseLemmas.{fits_number_constant, fits_number_local, fits_number_scalar, fits_number_field, fits_number_id, fits_number_neg, fits_number_chain, fits_truth_valid, fits_truth_not, fits_truth_chain, fits_truth_comparenumbers, fits_truth_compareelements, fits_number_link, fits_truth_link}

pub both_true : {a b : Bool} → a ≡ true → b ≡ true → (a && b) ≡ true
both_true {b = b} e f = ap (λ a. a && b) e ∙ f

all_more : {A : Type 0} (f : A → Bool) (xs : List A) (x : A) → all_fit (map f xs) ≡ true → f x ≡ true → all_fit (map f (xs ++ x ∷ [])) ≡ true
all_more f [] x h e = both_true e refl
all_more f (y ∷ xs) x h e = let p = and_parts (f y) (all_fit (map f xs)) h in both_true p.0 (all_more f xs x p.1 e)

towards_is : (kind other : Kind) → are_towards_kinds kind other ≡ true → towards_kind (Some kind) (Some other) ≡ Some kind
towards_is Vertex Vertex e = absurd cc
towards_is Vertex Edge e = absurd cc
towards_is Vertex Face e = absurd cc
towards_is Vertex Cell e = absurd cc
towards_is Edge Vertex e = refl
towards_is Edge Edge e = absurd cc
towards_is Edge Face e = absurd cc
towards_is Edge Cell e = absurd cc
towards_is Face Vertex e = absurd cc
towards_is Face Edge e = absurd cc
towards_is Face Face e = absurd cc
towards_is Face Cell e = refl
towards_is Cell Vertex e = absurd cc
towards_is Cell Edge e = absurd cc
towards_is Cell Face e = absurd cc
towards_is Cell Cell e = absurd cc

-- each slot of a visible name has the kind of the name
pub record HasKinds (names : Names) (kinds : List Kind) : Type 0 where
  pub has_kind_of : (name : List ℕ) (slot : ℕ) (kind : Kind) → resolution_of names name ≡ Some (resolution.Element slot kind) → slice_get kinds slot ≡ Some kind

module _ (kinds : List Kind) where
  abbrev pub FitsKinds : TypedCode → Type 0
  FitsKinds (typed.Number code) = number_fits kinds code ≡ true
  FitsKinds (typed.Truth code) = truth_fits kinds code ≡ true
  FitsKinds (typed.Element kind code) = kind_of kinds code ≡ Some kind

  called_fits : (of : ElementFun) (kind : Kind) (code : ElementCode) (other : Kind) → call_kind of (Some kind) ≡ Some other → kind_of kinds code ≡ Some kind
      → kind_of kinds (element.Call of code) ≡ Some other
  called_fits of kind code other e h = kind_call kinds of code ∙ ap (call_kind of) h ∙ e

  call_fits : (place : Place) (fun : Fun) (kind : Kind) (code : ElementCode) (call : TypedCode) → kind_of kinds code ≡ Some kind → call_code place fun kind code ≡ Ok call → FitsKinds call
  call_fits place Head Vertex code call h e = absurd cc
  call_fits place Head Edge code call h e = subst FitsKinds (ok_is (typed.Element Vertex (element.Call function.Head code)) call e) (called_fits function.Head Edge code Vertex refl h)
  call_fits place Head Face code call h e = absurd cc
  call_fits place Head Cell code call h e = absurd cc
  call_fits place Tail Vertex code call h e = absurd cc
  call_fits place Tail Edge code call h e = subst FitsKinds (ok_is (typed.Element Vertex (element.Call function.Tail code)) call e) (called_fits function.Tail Edge code Vertex refl h)
  call_fits place Tail Face code call h e = absurd cc
  call_fits place Tail Cell code call h e = absurd cc
  call_fits place Inside Vertex code call h e = absurd cc
  call_fits place Inside Edge code call h e = absurd cc
  call_fits place Inside Face code call h e = subst FitsKinds (ok_is (typed.Element Cell (element.Call function.Inside code)) call e) (called_fits function.Inside Face code Cell refl h)
  call_fits place Inside Cell code call h e = absurd cc
  call_fits place Outside Vertex code call h e = absurd cc
  call_fits place Outside Edge code call h e = absurd cc
  call_fits place Outside Face code call h e = subst FitsKinds (ok_is (typed.Element Cell (element.Call function.Outside code)) call e) (called_fits function.Outside Face code Cell refl h)
  call_fits place Outside Cell code call h e = absurd cc
  call_fits place Flip Vertex code call h e = absurd cc
  call_fits place Flip Edge code call h e = subst FitsKinds (ok_is (typed.Element Edge (element.Call function.Flip code)) call e) (called_fits function.Flip Edge code Edge refl h)
  call_fits place Flip Face code call h e = subst FitsKinds (ok_is (typed.Element Face (element.Call function.Flip code)) call e) (called_fits function.Flip Face code Face refl h)
  call_fits place Flip Cell code call h e = absurd cc
  call_fits place Valid kind code call h e = subst FitsKinds (ok_is (typed.Truth (truth.Valid code)) call e) (fits_truth_valid kinds code ∙ ap is_some h)
  call_fits place Id kind code call h e = subst FitsKinds (ok_is (typed.Number (number.Id place code)) call e) (fits_number_id kinds place code ∙ ap is_some h)

  called_code_fits : (place : Place) (fun : Fun) (operand call : TypedCode) → FitsKinds operand → called_code place fun operand ≡ Ok call → FitsKinds call
  called_code_fits place fun (typed.Element kind code) call h e = call_fits place fun kind code call h e
  called_code_fits place fun (typed.Number code) call h e = absurd cc
  called_code_fits place fun (typed.Truth code) call h e = absurd cc

  towards_fits : (place : Place) (operand other call : TypedCode) → FitsKinds operand → FitsKinds other → towards_code place operand other ≡ Ok call → FitsKinds call
  towards_fits place (typed.Element kind code) (typed.Element kind' code') call h g e = go (are_towards_kinds kind kind') refl e where
    go : (can : Bool) → are_towards_kinds kind kind' ≡ can → (if can then Ok (typed.Element kind (element.Towards code code')) else fails TypeMismatch place) ≡ Ok call → FitsKinds call
    go true can e = subst FitsKinds (ok_is (typed.Element kind (element.Towards code code')) call e)
        (kind_towards kinds code code' ∙ ap (λ k. towards_kind k (kind_of kinds code')) h ∙ ap (towards_kind (Some kind)) g ∙ towards_is kind kind' can)
    go false can e = absurd cc
  towards_fits place (typed.Element kind code) (typed.Number code') call h g e = absurd cc
  towards_fits place (typed.Element kind code) (typed.Truth code') call h g e = absurd cc
  towards_fits place (typed.Number code) other call h g e = absurd cc
  towards_fits place (typed.Truth code) other call h g e = absurd cc

  neg_fits : (place : Place) (operand value : TypedCode) → FitsKinds operand → negated place operand ≡ Ok value → FitsKinds value
  neg_fits place (typed.Number code) value h e = subst FitsKinds (ok_is (typed.Number (number.Neg place code)) value e) (fits_number_neg kinds place code ∙ h)
  neg_fits place (typed.Truth code) value h e = absurd cc
  neg_fits place (typed.Element kind code) value h e = absurd cc

  not_fits : (place : Place) (operand value : TypedCode) → FitsKinds operand → inverted place operand ≡ Ok value → FitsKinds value
  not_fits place (typed.Truth code) value h e = subst FitsKinds (ok_is (typed.Truth (truth.Not code)) value e) (fits_truth_not kinds code ∙ h)
  not_fits place (typed.Number code) value h e = absurd cc
  not_fits place (typed.Element kind code) value h e = absurd cc

  comparison_fits : (place : Place) (rel : Rel) (operand other test : TypedCode) → FitsKinds operand → FitsKinds other → comparison_code place rel operand other ≡ Ok test → FitsKinds test
  comparison_fits place rel (typed.Number code) (typed.Number code') test h g e =
      subst FitsKinds (ok_is (typed.Truth (truth.CompareNumbers rel code code')) test e) (fits_truth_comparenumbers kinds rel code code' ∙ both_true h g)
  comparison_fits place rel (typed.Element kind code) (typed.Element kind' code') test h g e = go (is_sameness rel && is_kind kind kind') e where
    go : (can : Bool) → (if can then Ok (typed.Truth (truth.CompareElements (is_equality rel) code code')) else fails TypeMismatch place) ≡ Ok test → FitsKinds test
    go true e = subst FitsKinds (ok_is (typed.Truth (truth.CompareElements (is_equality rel) code code')) test e)
        (fits_truth_compareelements kinds (is_equality rel) code code' ∙ both_true (ap is_some h) (ap is_some g))
    go false e = absurd cc
  comparison_fits place rel (typed.Number code) (typed.Truth code') test h g e = absurd cc
  comparison_fits place rel (typed.Number code) (typed.Element kind code') test h g e = absurd cc
  comparison_fits place rel (typed.Element kind code) (typed.Number code') test h g e = absurd cc
  comparison_fits place rel (typed.Element kind code) (typed.Truth code') test h g e = absurd cc
  comparison_fits place rel (typed.Truth code) other test h g e = absurd cc

  -- chains
  abbrev ChainFits : ChainCode → Type 0
  ChainFits (chain.Numbers first rest) = (number_fits kinds first ≡ true) × (all_fit (map (fits_of_number_link kinds) rest) ≡ true)
  ChainFits (chain.Truths first rest) = (truth_fits kinds first ≡ true) × (all_fit (map (fits_of_truth_link kinds) rest) ≡ true)
  ChainFits (chain.Element kind code) = kind_of kinds code ≡ Some kind

  chain_starts : (operand : TypedCode) → FitsKinds operand → ChainFits (first_of_chain operand)
  chain_starts (typed.Number code) h = (h, refl)
  chain_starts (typed.Truth code) h = (h, refl)
  chain_starts (typed.Element kind code) h = h

  chain_ends : (done : ChainCode) → ChainFits done → FitsKinds (whole_chain done)
  chain_ends (chain.Numbers first []) h = h.0
  chain_ends (chain.Numbers first (l ∷ rest)) h = fits_number_chain kinds first (l ∷ rest) ∙ both_true h.0 h.1
  chain_ends (chain.Truths first []) h = h.0
  chain_ends (chain.Truths first (l ∷ rest)) h = fits_truth_chain kinds first (l ∷ rest) ∙ both_true h.0 h.1
  chain_ends (chain.Element kind code) h = h

  chain_extended : (place : Place) (sign : Sign) (done : ChainCode) (operand : TypedCode) (next : ChainCode) → ChainFits done → FitsKinds operand
      → extended_chain place sign done operand ≡ Ok next → ChainFits next
  chain_extended place sign (chain.Numbers first rest) (typed.Number code) next h g e = go (arithmetic_of sign) e where
    go : (found : Option Arithmetic) → (number_link place found code >>= λ l. Ok (chain.Numbers first (rest ++ l ∷ []))) ≡ Ok next → ChainFits next
    go (Some op) e =
        let l : NumberLink = record { op = op; place = place; arg = code } in
        subst ChainFits (ok_is (chain.Numbers first (rest ++ l ∷ [])) next e) (h.0, all_more (fits_of_number_link kinds) rest l h.1 (fits_number_link kinds l ∙ g))
    go None e = absurd cc
  chain_extended place sign (chain.Truths first rest) (typed.Truth code) next h g e = go (connective_of sign) e where
    go : (found : Option Connective) → (truth_link place found code >>= λ l. Ok (chain.Truths first (rest ++ l ∷ []))) ≡ Ok next → ChainFits next
    go (Some op) e =
        let l : TruthLink = record { op = op; arg = code } in
        subst ChainFits (ok_is (chain.Truths first (rest ++ l ∷ [])) next e) (h.0, all_more (fits_of_truth_link kinds) rest l h.1 (fits_truth_link kinds l ∙ g))
    go None e = absurd cc
  chain_extended place sign (chain.Numbers first rest) (typed.Truth code) next h g e = absurd cc
  chain_extended place sign (chain.Numbers first rest) (typed.Element kind code) next h g e = absurd cc
  chain_extended place sign (chain.Truths first rest) (typed.Number code) next h g e = absurd cc
  chain_extended place sign (chain.Truths first rest) (typed.Element kind code) next h g e = absurd cc
  chain_extended place sign (chain.Element kind code) operand next h g e = absurd cc

  module _ (names : Names) (has : HasKinds names kinds) where
    name_fits : (place : Place) (name : List ℕ) (accesses : Accesses) (found : Option Resolution) (r : TypedCode × Accesses) → resolution_of names name ≡ found
        → resolved_name place accesses found ≡ Ok r → FitsKinds r.0
    name_fits place name accesses None r is e = absurd cc
    name_fits place name accesses (Some (resolution.Field field kind)) r is e = absurd cc
    name_fits place name accesses (Some (resolution.Scalar scalar)) r is e =
        let later = bound (with_access accesses (OfScalar scalar) Read place) (λ later. Ok (typed.Number (number.Scalar scalar), later)) r e in
        subst (λ (r : TypedCode × Accesses). FitsKinds r.0) (ok_is (typed.Number (number.Scalar scalar), later.0) r later.2) (fits_number_scalar kinds scalar)
    name_fits place name accesses (Some (resolution.Number slot)) r is e =
        subst (λ (r : TypedCode × Accesses). FitsKinds r.0) (ok_is (typed.Number (number.Local slot), accesses) r e) (fits_number_local kinds slot)
    name_fits place name accesses (Some (resolution.Element slot kind)) r is e =
        subst (λ (r : TypedCode × Accesses). FitsKinds r.0) (ok_is (typed.Element kind (element.Slot slot), accesses) r e) (kind_slot kinds slot ∙ has.has_kind_of name slot kind is)

    pub of_kind : (kind : Kind) (place : Place) (operand : TypedCode) (target : ElementCode) → FitsKinds operand → element_of_kind kind place operand ≡ Ok target → has_kind kinds target ≡ true
    of_kind kind place (typed.Element other code) target h e = go (is_kind kind other) e where
      go : (same : Bool) → (if same then Ok code else fails TypeMismatch place) ≡ Ok target → has_kind kinds target ≡ true
      go true e = subst (λ target. has_kind kinds target ≡ true) (ok_is code target e) (ap is_some h)
      go false e = absurd cc
    of_kind kind place (typed.Number code) target h e = absurd cc
    of_kind kind place (typed.Truth code) target h e = absurd cc

    abbrev with_read : Place → ℕ → ElementCode → Accesses → Result (TypedCode × Accesses) ProgramFault
    with_read place field target later = Ok (typed.Number (number.Field place field target), later)

    abbrev with_target : Place → ℕ → Accesses → ElementCode → Result (TypedCode × Accesses) ProgramFault
    with_target place field accesses target = with_access accesses (OfField field) Read place >>= with_read place field target

    abbrev with_operand : Place → ℕ × Kind → TypedCode × Accesses → Result (TypedCode × Accesses) ProgramFault
    with_operand place field operand = element_of_kind field.1 place operand.0 >>= with_target place field.0 operand.1

    abbrev with_field : Place → Expression → Accesses → ℕ × Kind → Result (TypedCode × Accesses) ProgramFault
    with_field place arg accesses field = resolved_expression names accesses arg >>= with_operand place field

    operand_fits : (place : Place) (field : ℕ × Kind) (operand r : TypedCode × Accesses) → FitsKinds operand.0 → with_operand place field operand ≡ Ok r → FitsKinds r.0
    operand_fits place field operand r h e =
        let target = bound (element_of_kind field.1 place operand.0) (with_target place field.0 operand.1) r e in
        let later = bound (with_access operand.1 (OfField field.0) Read place) (with_read place field.0 target.0) r target.2 in
        subst (λ (r : TypedCode × Accesses). FitsKinds r.0) (ok_is (typed.Number (number.Field place field.0 target.0), later.0) r later.2)
        (fits_number_field kinds place field.0 target.0 ∙ of_kind field.1 place operand.0 target.0 h target.1)

    mutual
      pub expression_fits : (e : Expression) (accesses : Accesses) (r : TypedCode × Accesses) → resolved_expression names accesses e ≡ Ok r → FitsKinds r.0
      expression_fits (Number place n) accesses r e =
          subst (λ (r : TypedCode × Accesses). FitsKinds r.0) (ok_is (typed.Number (number.Constant n), accesses) r e) (fits_number_constant kinds n)
      expression_fits (Name place name) accesses r e = name_fits place name accesses (resolution_of names name) r refl e
      expression_fits (Field place name arg) accesses r e =
          let field = bound (named_field place (resolution_of names name)) (with_field place arg accesses) r e in
          let operand = bound (resolved_expression names accesses arg) (with_operand place field.0) r field.2 in
          operand_fits place field.0 operand.0 r (expression_fits arg accesses operand.0 operand.1) operand.2
      expression_fits (Call place fun arg) accesses r e =
          let operand = bound (resolved_expression names accesses arg) (λ operand. called_code place fun operand.0 >>= λ call. Ok (call, operand.1)) r e in
          let call = bound (called_code place fun operand.0.0) (λ call. Ok (call, operand.0.1)) r operand.2 in
          subst (λ (r : TypedCode × Accesses). FitsKinds r.0) (ok_is (call.0, operand.0.1) r call.2)
          (called_code_fits place fun operand.0.0 call.0 (expression_fits arg accesses operand.0 operand.1) call.1)
      expression_fits (Towards place arg to) accesses r e =
          let first = bound (resolved_expression names accesses arg)
          (λ first. resolved_expression names first.1 to >>= λ second. towards_code place first.0 second.0 >>= λ call. Ok (call, second.1)) r e in
          let second = bound (resolved_expression names first.0.1 to) (λ second. towards_code place first.0.0 second.0 >>= λ call. Ok (call, second.1)) r first.2 in
          let call = bound (towards_code place first.0.0 second.0.0) (λ call. Ok (call, second.0.1)) r second.2 in
          subst (λ (r : TypedCode × Accesses). FitsKinds r.0) (ok_is (call.0, second.0.1) r call.2)
          (towards_fits place first.0.0 second.0.0 call.0 (expression_fits arg accesses first.0 first.1) (expression_fits to first.0.1 second.0 second.1) call.1)
      expression_fits (Neg place arg) accesses r e =
          let operand = bound (resolved_expression names accesses arg) (λ operand. negated place operand.0 >>= λ value. Ok (value, operand.1)) r e in
          let value = bound (negated place operand.0.0) (λ value. Ok (value, operand.0.1)) r operand.2 in
          subst (λ (r : TypedCode × Accesses). FitsKinds r.0) (ok_is (value.0, operand.0.1) r value.2)
          (neg_fits place operand.0.0 value.0 (expression_fits arg accesses operand.0 operand.1) value.1)
      expression_fits (Not place arg) accesses r e =
          let operand = bound (resolved_expression names accesses arg) (λ operand. inverted place operand.0 >>= λ value. Ok (value, operand.1)) r e in
          let value = bound (inverted place operand.0.0) (λ value. Ok (value, operand.0.1)) r operand.2 in
          subst (λ (r : TypedCode × Accesses). FitsKinds r.0) (ok_is (value.0, operand.0.1) r value.2)
          (not_fits place operand.0.0 value.0 (expression_fits arg accesses operand.0 operand.1) value.1)
      expression_fits (Chain level first links) accesses r e =
          let operand = bound (resolved_expression names accesses first) (λ operand. resolved_links names operand.1 (first_of_chain operand.0) links) r e in
          links_fit links (first_of_chain operand.0.0) operand.0.1 r (chain_starts operand.0.0 (expression_fits first accesses operand.0 operand.1)) operand.2
      expression_fits (Compare place rel left right) accesses r e =
          let first = bound (resolved_expression names accesses left)
          (λ first. resolved_expression names first.1 right >>= λ second. comparison_code place rel first.0 second.0 >>= λ test. Ok (test, second.1)) r e in
          let second = bound (resolved_expression names first.0.1 right) (λ second. comparison_code place rel first.0.0 second.0 >>= λ test. Ok (test, second.1)) r first.2 in
          let test = bound (comparison_code place rel first.0.0 second.0.0) (λ test. Ok (test, second.0.1)) r second.2 in
          subst (λ (r : TypedCode × Accesses). FitsKinds r.0) (ok_is (test.0, second.0.1) r test.2)
          (comparison_fits place rel first.0.0 second.0.0 test.0 (expression_fits left accesses first.0 first.1) (expression_fits right first.0.1 second.0 second.1) test.1)

      links_fit : (links : Links) (done : ChainCode) (accesses : Accesses) (r : TypedCode × Accesses) → ChainFits done → resolved_links names accesses done links ≡ Ok r → FitsKinds r.0
      links_fit no_links done accesses r h e = subst (λ (r : TypedCode × Accesses). FitsKinds r.0) (ok_is (whole_chain done, accesses) r e) (chain_ends done h)
      links_fit (link sign place arg rest) done accesses r h e =
          let other = bound (resolved_expression names accesses arg) (λ other. extended_chain place sign done other.0 >>= λ next. resolved_links names other.1 next rest) r e in
          let next = bound (extended_chain place sign done other.0.0) (λ next. resolved_links names other.0.1 next rest) r other.2 in
          links_fit rest next.0 other.0.1 r (chain_extended place sign done other.0.0 next.0 h (expression_fits arg accesses other.0 other.1) next.1) next.2
