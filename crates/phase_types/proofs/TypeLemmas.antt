-- The computed type is that of the typing relation.
use Rattle.std.proofs.Common.{◌≡◌, ℕ, Bool, true, false, List, refl, sym, ap, subst, ◌∙◌}
use Rattle.std.proofs.lemmas.Bool.{and_parts}
use Rattle.std.specs.Prelude.{Option, Some, None, ◌&&◌, if◌then◌else◌}
use Rattle.std.specs.Option.{option_and_then}
use Rattle.liszt_base.specs.Kinds.{is_kind}
use Rattle.liszt_base.specs.declared.answers.Place.{Place}
use Rattle.liszt_base.specs.declared.elements.Kind.{Kind}
use Rattle.liszt_base.specs.declared.elements.Kind.TheVariants.{Vertex, Edge, Face, Cell}
use Rattle.liszt_tree.specs.declared.tree.Fun.{Fun}
use Rattle.liszt_tree.specs.declared.tree.Rel.{Rel}
use Rattle.liszt_tree.specs.declared.tree.Sign.{Sign}
use Rattle.liszt_tree.specs.Tree.{Expression, Number, Name, Field, Call, Towards, Neg, Not, Chain, Compare, Links, no_links, link}
use Rattle.phase_types.specs.Environments.{Environment, Binding, FieldName, ScalarName, LocalName, ElementName, binding_of}
use Rattle.phase_types.specs.Types.{ValueType, NumberType, TruthType, ElementType, is_type, are_towards_kinds, operand_type, is_sameness, HasType, IsNumber, IsScalar, IsLocal, IsElement, IsField, IsCall, IsTowards, IsNeg, IsNot, IsChain, AreNumbers, AreElements, FollowsType, NoLinks, OneLink, matching_type, name_type, field_type, called_type, towards_type, operator_type, comparison_type, type_of, type_after_links}

pub same_kind : (kind : Kind) → is_kind kind kind ≡ true
same_kind Vertex = refl
same_kind Edge = refl
same_kind Face = refl
same_kind Cell = refl

pub kinds_are : (kind other : Kind) → is_kind kind other ≡ true → kind ≡ other
kinds_are Vertex Vertex e = refl
kinds_are Edge Edge e = refl
kinds_are Face Face e = refl
kinds_are Cell Cell e = refl
kinds_are _ _ e = absurd cc

pub same_type : (type : ValueType) → is_type type type ≡ true
same_type NumberType = refl
same_type TruthType = refl
same_type (ElementType kind) = same_kind kind

pub types_are : (type other : ValueType) → is_type type other ≡ true → type ≡ other
types_are NumberType NumberType e = refl
types_are TruthType TruthType e = refl
types_are (ElementType kind) (ElementType other) e = ap ElementType (kinds_are kind other e)
types_are _ _ e = absurd cc

chosen_by : {A : Type 0} (b : Bool) (this other : A) → b ≡ true → (if b then this else other) ≡ this
chosen_by b this other e = ap (λ b. if b then this else other) e

only_same : (type : ValueType) → matching_type type (Some type) ≡ Some type
only_same type = chosen_by (is_type type type) (Some type) None (same_type type)

pub same_some : {A : Type 0} (x y : A) → Some x ≡ Some y → x ≡ y
same_some x y e = cc

some_is : {A : Type 0} (b : Bool) (x y : A) → (if b then Some x else None) ≡ Some y → (b ≡ true) × (x ≡ y)
some_is true x y e = (refl, cc)
some_is false x y e = absurd cc

pub only_is : (type : ValueType) (other : Option ValueType) (found : ValueType) → matching_type type other ≡ Some found → (other ≡ Some type) × (type ≡ found)
only_is type None found e = absurd cc
only_is type (Some other) found e =
    let both = some_is (is_type type other) type found e in
    (ap Some (sym (types_are type other both.0)), both.1)

operator_own : (sign : Sign) → operator_type sign (Some (operand_type sign)) (Some (operand_type sign)) ≡ Some (operand_type sign)
operator_own sign =
    ap (option_and_then (λ type. matching_type (operand_type sign) (Some (operand_type sign)))) (only_same (operand_type sign)) ∙ only_same (operand_type sign)

pub operator_fits : (sign : Sign) (type : ValueType) (arg : Option ValueType) → operand_type sign ≡ type → arg ≡ Some type
    → operator_type sign (Some type) arg ≡ Some type
operator_fits sign type arg is e =
    ap (operator_type sign (Some type)) e ∙ subst (λ type. operator_type sign (Some type) (Some type) ≡ Some type) is (operator_own sign)

-- FROM THE RELATION to the computed type
mutual
  pub computed : {environment : Environment} {e : Expression} {type : ValueType} → HasType environment e type → type_of environment e ≡ Some type
  computed (IsNumber place value) = refl
  computed (IsScalar place name is) = ap name_type is
  computed (IsLocal place name is) = ap name_type is
  computed (IsElement place name is) = ap name_type is
  computed {environment = environment} (IsField {number = number} {kind = kind} {arg = arg} place name is h) =
      ap (λ global. field_type global (type_of environment arg)) is ∙ ap (field_type (Some (FieldName number kind))) (computed h)
      ∙ ap (option_and_then (λ type. Some NumberType)) (only_same (ElementType kind))
  computed (IsCall place fun h is) = ap (called_type fun) (computed h) ∙ is
  computed {environment = environment} (IsTowards {kind = kind} {other = other} {arg = arg} {to = to} place h g can) =
      ap (λ type. towards_type type (type_of environment to)) (computed h) ∙ ap (towards_type (Some (ElementType kind))) (computed g)
      ∙ chosen_by (are_towards_kinds kind other) (Some (ElementType kind)) None can
  computed (IsNeg place h) = ap (matching_type NumberType) (computed h)
  computed (IsNot place h) = ap (matching_type TruthType) (computed h)
  computed {environment = environment} (IsChain {links = links} level h rest) = ap (λ type. type_after_links environment type links) (computed h) ∙ computed_after_links rest
  computed {environment = environment} (AreNumbers {left = left} {right = right} place rel h g) =
      ap (λ type. comparison_type rel type (type_of environment right)) (computed h) ∙ ap (comparison_type rel (Some NumberType)) (computed g)
  computed {environment = environment} (AreElements {kind = kind} {left = left} {right = right} place rel h g same) =
      ap (λ type. comparison_type rel type (type_of environment right)) (computed h) ∙ ap (comparison_type rel (Some (ElementType kind))) (computed g)
      ∙ ap (λ b. if b && is_kind kind kind then Some TruthType else None) same ∙ chosen_by (is_kind kind kind) (Some TruthType) None (same_kind kind)

  pub computed_after_links : {environment : Environment} {type : ValueType} {links : Links} → FollowsType environment type links → type_after_links environment (Some type) links ≡ Some type
  computed_after_links (NoLinks type) = refl
  computed_after_links {environment = environment} (OneLink {type = type} {arg = arg} {rest = links} sign place is h rest) =
      ap (λ type. type_after_links environment type links) (operator_fits sign type (type_of environment arg) is (computed h)) ∙ computed_after_links rest

-- FROM THE COMPUTED TYPE to the relation: the operands of an operator of a chain
pub operands_are : (sign : Sign) (left right : Option ValueType) (type : ValueType) → operator_type sign left right ≡ Some type
    → (left ≡ Some (operand_type sign)) × (right ≡ Some (operand_type sign)) × (operand_type sign ≡ type)
operands_are sign left right type e = go (matching_type (operand_type sign) left) refl e where
  go : (found : Option ValueType) → matching_type (operand_type sign) left ≡ found → option_and_then (λ t. matching_type (operand_type sign) right) found ≡ Some type
      → (left ≡ Some (operand_type sign)) × (right ≡ Some (operand_type sign)) × (operand_type sign ≡ type)
  go None is e = absurd cc
  go (Some t) is e =
      let l = only_is (operand_type sign) left t is in
      let r = only_is (operand_type sign) right type e in
      (l.0, r.0, r.1)

-- the operands of a chain have one type
pub type_after_links_is : (environment : Environment) (links : Links) (type : Option ValueType) (found : ValueType) → type_after_links environment type links ≡ Some found
    → type ≡ Some found
type_after_links_is environment no_links type found e = e
type_after_links_is environment (link sign place arg rest) type found e =
    let is = operands_are sign type (type_of environment arg) found (type_after_links_is environment rest (operator_type sign type (type_of environment arg)) found e) in
    is.0 ∙ ap Some is.2

name_typed : (environment : Environment) (place : Place) (name : List ℕ) (global : Option Binding) (type : ValueType) → binding_of environment name ≡ global
    → name_type global ≡ Some type → HasType environment (Name place name) type
name_typed environment place name (Some (ScalarName number)) type is e = subst (λ type. HasType environment (Name place name) type) (same_some NumberType type e) (IsScalar place name is)
name_typed environment place name (Some LocalName) type is e = subst (λ type. HasType environment (Name place name) type) (same_some NumberType type e) (IsLocal place name is)
name_typed environment place name (Some (ElementName kind)) type is e = subst (λ type. HasType environment (Name place name) type) (same_some (ElementType kind) type e) (IsElement place name is)
name_typed environment place name (Some (FieldName number kind)) type is e = absurd cc
name_typed environment place name None type is e = absurd cc

field_typed : (environment : Environment) (place : Place) (name : List ℕ) (arg : Expression) (global : Option Binding) (type : ValueType) → binding_of environment name ≡ global
    → ((t : ValueType) → type_of environment arg ≡ Some t → HasType environment arg t) → field_type global (type_of environment arg) ≡ Some type
    → HasType environment (Field place name arg) type
field_typed environment place name arg (Some (FieldName number kind)) type is h e = go (matching_type (ElementType kind) (type_of environment arg)) refl e where
  go : (found : Option ValueType) → matching_type (ElementType kind) (type_of environment arg) ≡ found → option_and_then (λ t. Some NumberType) found ≡ Some type
      → HasType environment (Field place name arg) type
  go None eq e = absurd cc
  go (Some t) eq e =
      subst (λ type. HasType environment (Field place name arg) type) (same_some NumberType type e) (IsField place name is (h (ElementType kind) (only_is (ElementType kind) _ t eq).0))
field_typed environment place name arg (Some (ScalarName number)) type is h e = absurd cc
field_typed environment place name arg (Some LocalName) type is h e = absurd cc
field_typed environment place name arg (Some (ElementName kind)) type is h e = absurd cc
field_typed environment place name arg None type is h e = absurd cc

call_typed : (environment : Environment) (place : Place) (fun : Fun) (arg : Expression) (found : Option ValueType) (type : ValueType) → type_of environment arg ≡ found
    → ((t : ValueType) → type_of environment arg ≡ Some t → HasType environment arg t) → called_type fun found ≡ Some type → HasType environment (Call place fun arg) type
call_typed environment place fun arg (Some (ElementType kind)) type is h e = IsCall place fun (h (ElementType kind) is) e
call_typed environment place fun arg (Some NumberType) type is h e = absurd cc
call_typed environment place fun arg (Some TruthType) type is h e = absurd cc
call_typed environment place fun arg None type is h e = absurd cc

towards_typed : (environment : Environment) (place : Place) (arg to : Expression) (first second : Option ValueType) (type : ValueType)
    → type_of environment arg ≡ first → type_of environment to ≡ second
    → ((t : ValueType) → type_of environment arg ≡ Some t → HasType environment arg t) → ((t : ValueType) → type_of environment to ≡ Some t → HasType environment to t)
    → towards_type first second ≡ Some type → HasType environment (Towards place arg to) type
towards_typed environment place arg to (Some (ElementType kind)) (Some (ElementType other)) type is are h g e =
    let both = some_is (are_towards_kinds kind other) (ElementType kind) type e in
    subst (λ type. HasType environment (Towards place arg to) type) both.1 (IsTowards place (h (ElementType kind) is) (g (ElementType other) are) both.0)
towards_typed environment place arg to _ _ type is are h g e = absurd cc

compare_typed : (environment : Environment) (place : Place) (rel : Rel) (left right : Expression) (first second : Option ValueType) (type : ValueType)
    → type_of environment left ≡ first → type_of environment right ≡ second
    → ((t : ValueType) → type_of environment left ≡ Some t → HasType environment left t) → ((t : ValueType) → type_of environment right ≡ Some t → HasType environment right t)
    → comparison_type rel first second ≡ Some type → HasType environment (Compare place rel left right) type
compare_typed environment place rel left right (Some NumberType) (Some NumberType) type is are h g e =
    subst (λ type. HasType environment (Compare place rel left right) type) (same_some TruthType type e) (AreNumbers place rel (h NumberType is) (g NumberType are))
compare_typed environment place rel left right (Some (ElementType kind)) (Some (ElementType other)) type is are h g e =
    let both = some_is (is_sameness rel && is_kind kind other) TruthType type e in
    let parts = and_parts (is_sameness rel) (is_kind kind other) both.0 in
    subst (λ type. HasType environment (Compare place rel left right) type) both.1
    (AreElements place rel (h (ElementType kind) is) (g (ElementType kind) (are ∙ ap (λ k. Some (ElementType k)) (sym (kinds_are kind other parts.1)))) parts.0)
compare_typed environment place rel left right _ _ type is are h g e = absurd cc

mutual
  pub typed : (environment : Environment) (e : Expression) (type : ValueType) → type_of environment e ≡ Some type → HasType environment e type
  typed environment (Number place value) type e = subst (λ type. HasType environment (Number place value) type) (same_some NumberType type e) (IsNumber place value)
  typed environment (Name place name) type e = name_typed environment place name (binding_of environment name) type refl e
  typed environment (Field place name arg) type e = field_typed environment place name arg (binding_of environment name) type refl (typed environment arg) e
  typed environment (Call place fun arg) type e = call_typed environment place fun arg (type_of environment arg) type refl (typed environment arg) e
  typed environment (Towards place arg to) type e =
      towards_typed environment place arg to (type_of environment arg) (type_of environment to) type refl refl (typed environment arg) (typed environment to) e
  typed environment (Neg place arg) type e =
      let is = only_is NumberType (type_of environment arg) type e in
      subst (λ type. HasType environment (Neg place arg) type) is.1 (IsNeg place (typed environment arg NumberType is.0))
  typed environment (Not place arg) type e =
      let is = only_is TruthType (type_of environment arg) type e in
      subst (λ type. HasType environment (Not place arg) type) is.1 (IsNot place (typed environment arg TruthType is.0))
  typed environment (Chain level first links) type e =
      IsChain level (typed environment first type (type_after_links_is environment links (type_of environment first) type e)) (follows environment type links (type_of environment first) e)
  typed environment (Compare place rel left right) type e =
      compare_typed environment place rel left right (type_of environment left) (type_of environment right) type refl refl (typed environment left) (typed environment right) e

  follows : (environment : Environment) (type : ValueType) (links : Links) (found : Option ValueType) → type_after_links environment found links ≡ Some type
      → FollowsType environment type links
  follows environment type no_links found e = NoLinks type
  follows environment type (link sign place arg rest) found e =
      let is = operands_are sign found (type_of environment arg) type (type_after_links_is environment rest (operator_type sign found (type_of environment arg)) type e) in
      OneLink sign place is.2 (typed environment arg type (is.1 ∙ ap Some is.2)) (follows environment type rest (operator_type sign found (type_of environment arg)) e)
