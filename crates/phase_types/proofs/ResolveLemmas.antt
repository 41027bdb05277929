-- Resolving an expression walks through its steps and gives it its type.
use Rattle.std.proofs.Common.{◌≡◌, ℕ, Bool, true, false, List, ◌++◌, refl, sym, ap, subst}
use Rattle.std.specs.Option.{option_map, option_and_then}
use Rattle.std.specs.Prelude.{Option, Some, None, ◌&&◌, if◌then◌else◌, Result, Ok}
use Rattle.liszt_base.specs.Kinds.{is_kind}
use Rattle.liszt_base.specs.declared.accesses.Mode.TheVariants.{Read}
use Rattle.liszt_base.specs.declared.answers.Place.{Place}
use Rattle.liszt_base.specs.declared.answers.ProgramFault.{ProgramFault}
use Rattle.liszt_base.specs.declared.answers.ProgramWhat.TheVariants.{TypeMismatch}
use Rattle.liszt_base.specs.declared.elements.Kind.{Kind}
use Rattle.liszt_base.specs.declared.elements.Kind.TheVariants.{Edge, Face}
use Rattle.liszt_tree.specs.declared.tree.Fun.{Fun}
use Rattle.liszt_tree.specs.declared.tree.Fun.TheVariants.{Head, Tail, Inside, Outside, Flip, Valid, Id}
use Rattle.liszt_tree.specs.declared.tree.Rel.{Rel}
use Rattle.liszt_tree.specs.declared.tree.Sign.{Sign}
use Rattle.liszt_tree.specs.declared.tree.Sign.TheVariants as sign
use Rattle.liszt_tree.specs.Tree.{Expression, Number, Name, Field, Call, Towards, Neg, Not, Chain, Compare, Links, no_links, link}
use Rattle.resolved_code.specs.declared.expressions.ElementCode.{ElementCode}
use Rattle.resolved_code.specs.declared.expressions.NumberCode.TheVariants as number
use Rattle.phase_types.specs.declared.resolution.ChainCode.{ChainCode}
use Rattle.phase_types.specs.declared.resolution.ChainCode.TheVariants as chain
use Rattle.phase_types.specs.declared.resolution.Resolution.{Resolution}
use Rattle.phase_types.specs.declared.resolution.Resolution.TheVariants as resolution
use Rattle.phase_types.specs.declared.resolution.TypedCode.{TypedCode}
use Rattle.phase_types.specs.declared.resolution.TypedCode.TheVariants as typed
use Rattle.phase_types.specs.Environments.{Environment, Binding, FieldName, ScalarName, LocalName, ElementName, binding_of}
use Rattle.phase_types.specs.Types.{ValueType, NumberType, TruthType, ElementType, are_towards_kinds, is_sameness, name_type, field_type, called_type, towards_type, matching_type, operator_type, comparison_type, type_of, type_after_links}
use Rattle.phase_types.specs.Walk.{Step, OfField, OfScalar, requirement, access_step, place_of, has_type, name_steps, field_steps, type_requirement, steps_of, link_steps, typed_steps}
use Rattle.phase_types.specs.Resolve.{◌>>=◌, fails, Names, resolution_of, Accesses, with_access, number_in, truth_in, element_of_kind, resolved_name, named_field, called_code, towards_code, negated, inverted, comparison_code, first_of_chain, extended_chain, whole_chain, resolved_expression, resolved_links, resolved_number, resolved_truth}
use Rattle.phase_types.proofs.WalkLemmas.{walk, Walks, in_turn, regrouped, made, chosen, IsAny, accessed}

-- THE BINDING that a resolution has without its slot, and names that denote what they denote in an environment
abbrev pub binding_in : Resolution → Binding
binding_in (resolution.Field field kind) = FieldName field kind
binding_in (resolution.Scalar scalar) = ScalarName scalar
binding_in (resolution.Number slot) = LocalName
binding_in (resolution.Element slot kind) = ElementName kind

pub record Agrees (names : Names) (environment : Environment) : Type 0 where
  pub each : (name : List ℕ) → option_map binding_in (resolution_of names name) ≡ binding_of environment name

-- THE TYPE of a resolved expression and of a chain so far
abbrev pub type_in : TypedCode → ValueType
type_in (typed.Number code) = NumberType
type_in (typed.Truth code) = TruthType
type_in (typed.Element kind code) = ElementType kind

abbrev pub chain_type : ChainCode → ValueType
chain_type (chain.Numbers first rest) = NumberType
chain_type (chain.Truths first rest) = TruthType
chain_type (chain.Element kind code) = ElementType kind

abbrev pub accesses_with : {A : Type 0} → A × Accesses → Accesses
accesses_with a = a.1

abbrev pub HasItsType : Option ValueType → TypedCode × Accesses → Type 0
HasItsType type value = type ≡ Some (type_in value.0)

-- A NAME
name_walks : (place : Place) (accesses : Accesses) (found : Option Resolution)
    → Walks accesses_with (HasItsType (name_type (option_map binding_in found))) (walk accesses (name_steps place (option_map binding_in found))) (resolved_name place accesses found)
name_walks place accesses None = record { same = refl }
name_walks place accesses (Some (resolution.Field field kind)) = record { same = refl }
name_walks place accesses (Some (resolution.Number slot)) = record { same = (refl, refl) }
name_walks place accesses (Some (resolution.Element slot kind)) = record { same = (refl, refl) }
name_walks place accesses (Some (resolution.Scalar scalar)) = made (with_access accesses (OfScalar scalar) Read place) _ (accessed accesses (OfScalar scalar) Read place) (λ later any. (refl, refl))

-- AFTER AN EXPRESSION, with steps that depend on its type alone
pub after_typed : {C : Type 0} {t : C → Accesses} (Q : Option ValueType → C → Type 0) (R : Option ValueType → List Step) (accesses : Accesses) (steps : List Step) (type : Option ValueType)
    (first : Result (TypedCode × Accesses) ProgramFault) (next : TypedCode × Accesses → Result C ProgramFault) → Walks accesses_with (HasItsType type) (walk accesses steps) first
    → ((v : TypedCode × Accesses) → Walks t (Q (Some (type_in v.0))) (walk v.1 (R (Some (type_in v.0)))) (next v))
    → Walks t (Q type) (walk accesses (steps ++ R type)) (first >>= next)
after_typed {t = t} Q R accesses steps type first next h g =
    in_turn accesses steps (R type) first next h (λ v is. subst (λ type. Walks t (Q type) (walk v.1 (R type)) (next v)) (sym is) (g v))

-- CHECKS of a value by its type
abbrev IsChecked : {A : Type 0} → Accesses → Bool → Place → Result A ProgramFault → Type 0
IsChecked accesses b place check = Walks (λ a. accesses) (λ a. b ≡ true) (walk accesses (requirement b TypeMismatch place)) check

pub number_checked : (accesses : Accesses) (place : Place) (value : TypedCode) → IsChecked accesses (has_type NumberType (Some (type_in value))) place (number_in place value)
number_checked accesses place (typed.Number code) = record { same = (refl, refl) }
number_checked accesses place (typed.Truth code) = record { same = refl }
number_checked accesses place (typed.Element kind code) = record { same = refl }

pub truth_checked : (accesses : Accesses) (place : Place) (value : TypedCode) → IsChecked accesses (has_type TruthType (Some (type_in value))) place (truth_in place value)
truth_checked accesses place (typed.Number code) = record { same = refl }
truth_checked accesses place (typed.Truth code) = record { same = (refl, refl) }
truth_checked accesses place (typed.Element kind code) = record { same = refl }

pub kind_checked : (accesses : Accesses) (kind : Kind) (place : Place) (value : TypedCode)
    → IsChecked accesses (has_type (ElementType kind) (Some (type_in value))) place (element_of_kind kind place value)
kind_checked accesses kind place (typed.Number code) = record { same = refl }
kind_checked accesses kind place (typed.Truth code) = record { same = refl }
kind_checked accesses kind place (typed.Element other code) = chosen accesses (is_kind kind other) TypeMismatch place code

-- OPERATORS of values by their types: the value that they give has the type of the operator
abbrev Gives : Accesses → Option ValueType → Place → Result TypedCode ProgramFault → Type 0
Gives accesses type place check = Walks (λ v. accesses) (λ v. type ≡ Some (type_in v)) (walk accesses (type_requirement type place)) check

negated_gives : (accesses : Accesses) (place : Place) (value : TypedCode) → Gives accesses (matching_type NumberType (Some (type_in value))) place (negated place value)
negated_gives accesses place (typed.Number code) = record { same = (refl, refl) }
negated_gives accesses place (typed.Truth code) = record { same = refl }
negated_gives accesses place (typed.Element kind code) = record { same = refl }

inverted_gives : (accesses : Accesses) (place : Place) (value : TypedCode) → Gives accesses (matching_type TruthType (Some (type_in value))) place (inverted place value)
inverted_gives accesses place (typed.Number code) = record { same = refl }
inverted_gives accesses place (typed.Truth code) = record { same = (refl, refl) }
inverted_gives accesses place (typed.Element kind code) = record { same = refl }

call_gives : (accesses : Accesses) (place : Place) (fun : Fun) (kind : Kind) (arg : ElementCode)
    → Gives accesses (called_type fun (Some (ElementType kind))) place (called_code place fun (typed.Element kind arg))
call_gives accesses place Head Edge arg = record { same = (refl, refl) }
call_gives accesses place Tail Edge arg = record { same = (refl, refl) }
call_gives accesses place Inside Face arg = record { same = (refl, refl) }
call_gives accesses place Outside Face arg = record { same = (refl, refl) }
call_gives accesses place Flip Edge arg = record { same = (refl, refl) }
call_gives accesses place Flip Face arg = record { same = (refl, refl) }
call_gives accesses place Valid kind arg = record { same = (refl, refl) }
call_gives accesses place Id kind arg = record { same = (refl, refl) }
call_gives accesses place _ _ arg = record { same = refl }

called_gives : (accesses : Accesses) (place : Place) (fun : Fun) (value : TypedCode) → Gives accesses (called_type fun (Some (type_in value))) place (called_code place fun value)
called_gives accesses place fun (typed.Number code) = record { same = refl }
called_gives accesses place fun (typed.Truth code) = record { same = refl }
called_gives accesses place fun (typed.Element kind code) = call_gives accesses place fun kind code

chosen_type : (accesses : Accesses) (b : Bool) (type : ValueType) (place : Place) (v : TypedCode) → type ≡ type_in v
    → Gives accesses (if b then Some type else None) place (if b then Ok v else fails TypeMismatch place)
chosen_type accesses true type place v e = record { same = (refl, ap Some e) }
chosen_type accesses false type place v e = record { same = refl }

towards_gives : (accesses : Accesses) (place : Place) (first second : TypedCode)
    → Gives accesses (towards_type (Some (type_in first)) (Some (type_in second))) place (towards_code place first second)
towards_gives accesses place (typed.Element kind arg) (typed.Element other to) = chosen_type accesses (are_towards_kinds kind other) (ElementType kind) place _ refl
towards_gives accesses place _ _ = record { same = refl }

comparison_gives : (accesses : Accesses) (place : Place) (rel : Rel) (first second : TypedCode)
    → Gives accesses (comparison_type rel (Some (type_in first)) (Some (type_in second))) place (comparison_code place rel first second)
comparison_gives accesses place rel (typed.Number left) (typed.Number right) = record { same = (refl, refl) }
comparison_gives accesses place rel (typed.Element kind left) (typed.Element other right) = chosen_type accesses (is_sameness rel && is_kind kind other) TruthType place _ refl
comparison_gives accesses place rel _ _ = record { same = refl }

-- CHAINS
first_type : (value : TypedCode) → type_in value ≡ chain_type (first_of_chain value)
first_type (typed.Number code) = refl
first_type (typed.Truth code) = refl
first_type (typed.Element kind code) = refl

whole_type : (done : ChainCode) → chain_type done ≡ type_in (whole_chain done)
whole_type (chain.Numbers first rest) = refl
whole_type (chain.Truths first rest) = refl
whole_type (chain.Element kind code) = refl

abbrev Extends : Accesses → Option ValueType → Place → Result ChainCode ProgramFault → Type 0
Extends accesses type place check = Walks (λ c. accesses) (λ c. type ≡ Some (chain_type c)) (walk accesses (type_requirement type place)) check

extended : (accesses : Accesses) (place : Place) (s : Sign) (done : ChainCode) (arg : TypedCode)
    → Extends accesses (operator_type s (Some (chain_type done)) (Some (type_in arg))) place (extended_chain place s done arg)
extended accesses place sign.Plus (chain.Numbers first rest) (typed.Number arg) = record { same = (refl, refl) }
extended accesses place sign.Minus (chain.Numbers first rest) (typed.Number arg) = record { same = (refl, refl) }
extended accesses place sign.Times (chain.Numbers first rest) (typed.Number arg) = record { same = (refl, refl) }
extended accesses place sign.Over (chain.Numbers first rest) (typed.Number arg) = record { same = (refl, refl) }
extended accesses place sign.Rest (chain.Numbers first rest) (typed.Number arg) = record { same = (refl, refl) }
extended accesses place _ (chain.Numbers first rest) (typed.Number arg) = record { same = refl }
extended accesses place sign.Or (chain.Numbers first rest) (typed.Truth arg) = record { same = refl }
extended accesses place _ (chain.Numbers first rest) (typed.Truth arg) = record { same = refl }
extended accesses place sign.Or (chain.Numbers first rest) (typed.Element other arg) = record { same = refl }
extended accesses place _ (chain.Numbers first rest) (typed.Element other arg) = record { same = refl }
extended accesses place sign.Or (chain.Truths first rest) (typed.Number arg) = record { same = refl }
extended accesses place _ (chain.Truths first rest) (typed.Number arg) = record { same = refl }
extended accesses place sign.Or (chain.Truths first rest) (typed.Truth arg) = record { same = (refl, refl) }
extended accesses place sign.And (chain.Truths first rest) (typed.Truth arg) = record { same = (refl, refl) }
extended accesses place _ (chain.Truths first rest) (typed.Truth arg) = record { same = refl }
extended accesses place sign.Or (chain.Truths first rest) (typed.Element other arg) = record { same = refl }
extended accesses place _ (chain.Truths first rest) (typed.Element other arg) = record { same = refl }
extended accesses place sign.Or (chain.Element kind code) (typed.Number arg) = record { same = refl }
extended accesses place _ (chain.Element kind code) (typed.Number arg) = record { same = refl }
extended accesses place sign.Or (chain.Element kind code) (typed.Truth arg) = record { same = refl }
extended accesses place _ (chain.Element kind code) (typed.Truth arg) = record { same = refl }
extended accesses place sign.Or (chain.Element kind code) (typed.Element other arg) = record { same = refl }
extended accesses place _ (chain.Element kind code) (typed.Element other arg) = record { same = refl }

-- EXPRESSIONS: a field at an argument, two operands and an operator, and any expression
field_is : (kind : Kind) (number : ℕ) (type : ValueType) → has_type (ElementType kind) (Some type) ≡ true → field_type (Some (FieldName number kind)) (Some type) ≡ Some NumberType
field_is kind number type e = ap (λ b. option_and_then (λ t. Some NumberType) (if b then Some (ElementType kind) else None)) e

field_walks : (accesses : Accesses) (place : Place) (found : Option Resolution) (steps : List Step) (type : Option ValueType) (first : Result (TypedCode × Accesses) ProgramFault)
    → Walks accesses_with (HasItsType type) (walk accesses steps) first
    → Walks accesses_with (HasItsType (field_type (option_map binding_in found) type)) (walk accesses (field_steps place (option_map binding_in found) type steps))
    (named_field place found >>= λ field. first >>= λ operand. element_of_kind field.1 place operand.0 >>= λ target. with_access operand.1 (OfField field.0) Read place >>= λ later.
    Ok (typed.Number (number.Field place field.0 target), later))
field_walks accesses place None steps type first h = record { same = refl }
field_walks accesses place (Some (resolution.Scalar scalar)) steps type first h = record { same = refl }
field_walks accesses place (Some (resolution.Number slot)) steps type first h = record { same = refl }
field_walks accesses place (Some (resolution.Element slot kind)) steps type first h = record { same = refl }
field_walks accesses place (Some (resolution.Field field kind)) steps type first h =
    regrouped accesses steps (requirement (has_type (ElementType kind) type) TypeMismatch place) (access_step (OfField field) Read place)
    (after_typed (λ type. HasItsType (field_type (Some (FieldName field kind)) type)) (λ type. requirement (has_type (ElementType kind) type) TypeMismatch place ++ access_step (OfField field) Read place)
    accesses steps type first _ h
    (λ v. in_turn v.1 (requirement (has_type (ElementType kind) (Some (type_in v.0))) TypeMismatch place) (access_step (OfField field) Read place) (element_of_kind kind place v.0) _
    (kind_checked v.1 kind place v.0)
    (λ target e. made (with_access v.1 (OfField field) Read place) _ (accessed v.1 (OfField field) Read place) (λ later any. (refl, field_is kind field (type_in v.0) e)))))

binary_walks : (accesses : Accesses) (place : Place) (xs ys : List Step) (t u : Option ValueType) (T : Option ValueType → Option ValueType → Option ValueType)
    (first : Result (TypedCode × Accesses) ProgramFault) (second : Accesses → Result (TypedCode × Accesses) ProgramFault) (check : TypedCode → TypedCode → Result TypedCode ProgramFault)
    → Walks accesses_with (HasItsType t) (walk accesses xs) first → ((later : Accesses) → Walks accesses_with (HasItsType u) (walk later ys) (second later))
    → ((later : Accesses) (v w : TypedCode) → Gives later (T (Some (type_in v)) (Some (type_in w))) place (check v w))
    → Walks accesses_with (HasItsType (T t u)) (walk accesses ((xs ++ ys) ++ type_requirement (T t u) place))
    (first >>= λ v. second v.1 >>= λ w. check v.0 w.0 >>= λ call. Ok (call, w.1))
binary_walks accesses place xs ys t u T first second check h g k =
    regrouped accesses xs ys (type_requirement (T t u) place)
    (after_typed (λ t. HasItsType (T t u)) (λ t. ys ++ type_requirement (T t u) place) accesses xs t first _ h
    (λ v. after_typed (λ u. HasItsType (T (Some (type_in v.0)) u)) (λ u. type_requirement (T (Some (type_in v.0)) u) place) v.1 ys u (second v.1) _ (g v.1)
    (λ w. made (check v.0 w.0) _ (k w.1 v.0 w.0) (λ call e. (refl, e)))))

module _ {names : Names} {environment : Environment} (agrees : Agrees names environment) where
  mutual
    pub walks : (accesses : Accesses) (e : Expression) → Walks accesses_with (HasItsType (type_of environment e)) (walk accesses (steps_of environment e)) (resolved_expression names accesses e)
    walks accesses (Number place value) = record { same = (refl, refl) }
    walks accesses (Name place name) =
        subst (λ found. Walks accesses_with (HasItsType (name_type found)) (walk accesses (name_steps place found)) (resolved_name place accesses (resolution_of names name)))
        (agrees.each name) (name_walks place accesses (resolution_of names name))
    walks accesses (Field place name arg) =
        subst (λ found. Walks accesses_with (HasItsType (field_type found (type_of environment arg))) (walk accesses (field_steps place found (type_of environment arg) (steps_of environment arg)))
        (resolved_expression names accesses (Field place name arg)))
        (agrees.each name) (field_walks accesses place (resolution_of names name) (steps_of environment arg) (type_of environment arg) (resolved_expression names accesses arg) (walks accesses arg))
    walks accesses (Call place fun arg) =
        after_typed (λ type. HasItsType (called_type fun type)) (λ type. type_requirement (called_type fun type) place) accesses (steps_of environment arg) (type_of environment arg) (resolved_expression names accesses arg) _
        (walks accesses arg) (λ v. made (called_code place fun v.0) _ (called_gives v.1 place fun v.0) (λ call e. (refl, e)))
    walks accesses (Towards place arg to) =
        binary_walks accesses place (steps_of environment arg) (steps_of environment to) (type_of environment arg) (type_of environment to) towards_type (resolved_expression names accesses arg)
        (λ later. resolved_expression names later to) (towards_code place) (walks accesses arg) (λ later. walks later to) (λ later v w. towards_gives later place v w)
    walks accesses (Neg place arg) =
        after_typed (λ type. HasItsType (matching_type NumberType type)) (λ type. type_requirement (matching_type NumberType type) place) accesses (steps_of environment arg) (type_of environment arg) (resolved_expression names accesses arg) _
        (walks accesses arg) (λ v. made (negated place v.0) _ (negated_gives v.1 place v.0) (λ n e. (refl, e)))
    walks accesses (Not place arg) =
        after_typed (λ type. HasItsType (matching_type TruthType type)) (λ type. type_requirement (matching_type TruthType type) place) accesses (steps_of environment arg) (type_of environment arg) (resolved_expression names accesses arg) _
        (walks accesses arg) (λ v. made (inverted place v.0) _ (inverted_gives v.1 place v.0) (λ n e. (refl, e)))
    walks accesses (Chain level first links) =
        after_typed (λ type. HasItsType (type_after_links environment type links)) (λ type. link_steps environment type links) accesses (steps_of environment first) (type_of environment first) (resolved_expression names accesses first) _
        (walks accesses first)
        (λ v. subst (λ type. Walks accesses_with (HasItsType (type_after_links environment (Some type) links)) (walk v.1 (link_steps environment (Some type) links)) (resolved_links names v.1 (first_of_chain v.0) links))
        (sym (first_type v.0)) (links_walk v.1 (first_of_chain v.0) links))
    walks accesses (Compare place rel left right) =
        binary_walks accesses place (steps_of environment left) (steps_of environment right) (type_of environment left) (type_of environment right) (comparison_type rel) (resolved_expression names accesses left)
        (λ later. resolved_expression names later right) (comparison_code place rel) (walks accesses left) (λ later. walks later right) (λ later v w. comparison_gives later place rel v w)

    links_walk : (accesses : Accesses) (done : ChainCode) (links : Links) → Walks accesses_with (HasItsType (type_after_links environment (Some (chain_type done)) links))
        (walk accesses (link_steps environment (Some (chain_type done)) links)) (resolved_links names accesses done links)
    links_walk accesses done no_links = record { same = (refl, ap Some (whole_type done)) }
    links_walk accesses done (link s place arg rest) =
        let T : Option ValueType → Option ValueType = λ type. operator_type s (Some (chain_type done)) type in
        regrouped accesses (steps_of environment arg) (type_requirement (T (type_of environment arg)) place) (link_steps environment (T (type_of environment arg)) rest)
        (after_typed (λ type. HasItsType (type_after_links environment (T type) rest)) (λ type. type_requirement (T type) place ++ link_steps environment (T type) rest)
        accesses (steps_of environment arg) (type_of environment arg) (resolved_expression names accesses arg) _ (walks accesses arg)
        (λ v. in_turn v.1 (type_requirement (T (Some (type_in v.0))) place) (link_steps environment (T (Some (type_in v.0))) rest) (extended_chain place s done v.0) _ (extended v.1 place s done v.0)
        (λ next e. subst (λ type. Walks accesses_with (HasItsType (type_after_links environment type rest)) (walk v.1 (link_steps environment type rest)) (resolved_links names v.1 next rest)) (sym e)
        (links_walk v.1 next rest))))

  -- an expression that has to be a number, a truth value or an element
  pub number_walks : (accesses : Accesses) (e : Expression) → Walks accesses_with IsAny (walk accesses (typed_steps environment NumberType e)) (resolved_number names accesses e)
  number_walks accesses e =
      after_typed (λ type. IsAny) (λ type. requirement (has_type NumberType type) TypeMismatch (place_of e)) accesses (steps_of environment e) (type_of environment e) (resolved_expression names accesses e) _
      (walks accesses e) (λ v. made (number_in (place_of e) v.0) _ (number_checked v.1 (place_of e) v.0) (λ n b. (refl, tt)))

  pub truth_walks : (accesses : Accesses) (e : Expression) → Walks accesses_with IsAny (walk accesses (typed_steps environment TruthType e)) (resolved_truth names accesses e)
  truth_walks accesses e =
      after_typed (λ type. IsAny) (λ type. requirement (has_type TruthType type) TypeMismatch (place_of e)) accesses (steps_of environment e) (type_of environment e) (resolved_expression names accesses e) _
      (walks accesses e) (λ v. made (truth_in (place_of e) v.0) _ (truth_checked v.1 (place_of e) v.0) (λ n b. (refl, tt)))
