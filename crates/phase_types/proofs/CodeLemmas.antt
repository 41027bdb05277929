-- What a resolved expression, statement or body is, it fits each layout in which its names fit and that has the slots of its frame.
use Rattle.std.proofs.Common.{◌≡◌, ℕ, Bool, true, false, cond, List, [], ◌∷◌, ◌++◌, map, refl, sym, ap, ◌∙◌, rules}
use Rattle.std.proofs.lemmas.Bool.{and_parts}
use Rattle.std.proofs.lemmas.List.{map-append}
use Rattle.std.specs.Option.{option_and_then}
use Rattle.std.specs.Prelude.{Option, Some, None, ◌&&◌, nat_lt, slice_get, Result, Ok, Err, is_some}
use Rattle.liszt_base.specs.Kinds.{is_kind, has_set}
use Rattle.liszt_base.specs.declared.accesses.Mode.TheVariants.{Read}
use Rattle.liszt_base.specs.declared.answers.Place.{Place}
use Rattle.liszt_base.specs.declared.answers.ProgramFault.{ProgramFault}
use Rattle.liszt_base.specs.declared.answers.ProgramWhat.TheVariants.{TypeMismatch}
use Rattle.liszt_base.specs.declared.elements.Kind.{Kind}
use Rattle.liszt_base.specs.declared.elements.Kind.TheVariants.{Vertex, Edge, Face, Cell}
use Rattle.liszt_base.specs.declared.elements.SetName.{SetName}
use Rattle.liszt_tree.specs.declared.tree.Fun.{Fun}
use Rattle.liszt_tree.specs.declared.tree.Fun.TheVariants.{Head, Tail, Inside, Outside, Flip, Valid, Id}
use Rattle.liszt_tree.specs.declared.tree.Rel.{Rel}
use Rattle.liszt_tree.specs.declared.tree.Sign.{Sign}
use Rattle.liszt_tree.specs.Tree.{Expression, Number, Name, Field, Call, Towards, Neg, Not, Chain, Compare, Links, no_links, link}
use Rattle.resolved_code.specs.declared.expressions.Arithmetic.{Arithmetic}
use Rattle.resolved_code.specs.declared.expressions.Connective.{Connective}
use Rattle.resolved_code.specs.declared.expressions.ElementCode.{ElementCode, the_lemmas as element_lemmas}
use Rattle.resolved_code.specs.declared.expressions.ElementCode.TheVariants as element
use Rattle.resolved_code.specs.declared.expressions.ElementFun.{ElementFun}
use Rattle.resolved_code.specs.declared.expressions.ElementFun.TheVariants as function
use Rattle.resolved_code.specs.declared.expressions.NumberCode.{NumberCode, the_lemmas as number_lemmas}
use Rattle.resolved_code.specs.declared.expressions.NumberCode.TheVariants as number
use Rattle.resolved_code.specs.declared.expressions.NumberLink.{NumberLink}
use Rattle.resolved_code.specs.declared.expressions.TruthCode.{TruthCode, the_lemmas as truth_lemmas}
use Rattle.resolved_code.specs.declared.expressions.TruthCode.TheVariants as truth
use Rattle.resolved_code.specs.declared.expressions.TruthLink.{TruthLink}
use Rattle.phase_types.specs.Layouts.{Layout, field_kind, same_kind, call_kind, towards_kind, element_kind, has_members, all_fit, number_fits, truth_fits}
use Rattle.phase_types.specs.Resolve.{◌>>=◌, fails, Names, resolution_of, Accesses, with_access, number_in, truth_in, element_in, element_of_kind, element_with_set, resolved_name, named_field, call_code, called_code, towards_code, is_equality, comparison_code, negated, inverted, arithmetic_of, connective_of, number_link, truth_link, number_operand, truth_operand, first_of_chain, extended_chain, whole_chain, resolved_expression, resolved_links, resolved_number, resolved_truth, resolved_element}
use Rattle.phase_types.specs.Types.{are_towards_kinds, is_sameness}
use Rattle.phase_types.specs.Walk.{OfField, OfScalar, place_of}
use Rattle.phase_types.specs.declared.resolution.ChainCode.{ChainCode}
use Rattle.phase_types.specs.declared.resolution.ChainCode.TheVariants as chain
use Rattle.phase_types.specs.declared.resolution.Resolution.{Resolution}
use Rattle.phase_types.specs.declared.resolution.Resolution.TheVariants as resolution
use Rattle.phase_types.specs.declared.resolution.TypedCode.{TypedCode}
use Rattle.phase_types.specs.declared.resolution.TypedCode.TheVariants as typed
use Rattle.phase_types.proofs.TypeLemmas.{kinds_are, same_kind as kind_is_itself}

-- A RESULT whose value, if there is one, has a property
abbrev HoldsOf : {A : Type 0} → (A → Type 0) → Result A ProgramFault → Type 0
HoldsOf P (Ok a) = P a
HoldsOf P (Err fault) = Unit {0}

pub record Holds {A : Type 0} (P : A → Type 0) (result : Result A ProgramFault) : Type 0 where
  pub of : HoldsOf P result

pub bound : {A B : Type 0} {P : A → Type 0} {Q : B → Type 0} (first : Result A ProgramFault) (next : A → Result B ProgramFault) → Holds P first → ((a : A) → P a → Holds Q (next a)) → Holds Q (first >>= next)
bound (Ok a) next h g = g a (h.of)
bound (Err fault) next h g = record { of = tt }

abbrev Any : {A : Type 0} → A → Type 0
Any a = Unit {0}

pub any_result : {A : Type 0} (result : Result A ProgramFault) → Holds Any result
any_result (Ok a) = record { of = tt }
any_result (Err fault) = record { of = tt }

-- truth values
pub both : (a b : Bool) → a ≡ true → b ≡ true → (a && b) ≡ true
both true b e f = f
both false b e f = absurd cc

pub all_append : (xs ys : List Bool) → all_fit xs ≡ true → all_fit ys ≡ true → all_fit (xs ++ ys) ≡ true
all_append [] ys e f = f
all_append (true ∷ xs) ys e f = all_append xs ys e f
all_append (false ∷ xs) ys e f = absurd cc

pub one_more_fits : {X : Type 0} (test : X → Bool) (xs : List X) (x : X) → all_fit (map test xs) ≡ true → test x ≡ true → all_fit (map test (xs ++ x ∷ [])) ≡ true
one_more_fits test xs x e f =
    ap all_fit (map-append test xs (x ∷ [])) ∙ all_append (map test xs) (test x ∷ []) e (both (test x) true f refl)

-- THE FORMS OF CODE by their parts
module _ (W : Layout) where
  slot_is : (slot : ℕ) → element_kind W (element.Slot slot) ≡ slice_get W.elements slot
  slot_is slot = search (rules, element_lemmas)

  call_is : (fun : ElementFun) (arg : ElementCode) → element_kind W (element.Call fun arg) ≡ option_and_then (call_kind fun) (element_kind W arg)
  call_is fun arg = search (rules, element_lemmas)

  towards_is : (arg to : ElementCode) → element_kind W (element.Towards arg to) ≡ towards_kind (element_kind W arg) (element_kind W to)
  towards_is arg to = search (rules, element_lemmas)

  constant_is : (value : _) → number_fits W (number.Constant value) ≡ true
  constant_is value = search (rules, number_lemmas)

  local_is : (slot : ℕ) → number_fits W (number.Local slot) ≡ nat_lt slot W.numbers
  local_is slot = search (rules, number_lemmas)

  scalar_is : (scalar : ℕ) → number_fits W (number.Scalar scalar) ≡ nat_lt scalar W.scalars
  scalar_is scalar = search (rules, number_lemmas)

  field_is : (place : Place) (field : ℕ) (arg : ElementCode) → number_fits W (number.Field place field arg) ≡ same_kind (field_kind W field) (element_kind W arg)
  field_is place field arg = search (rules, number_lemmas)

  id_is : (place : Place) (arg : ElementCode) → number_fits W (number.Id place arg) ≡ is_some (element_kind W arg)
  id_is place arg = search (rules, number_lemmas)

  neg_is : (place : Place) (arg : NumberCode) → number_fits W (number.Neg place arg) ≡ number_fits W arg
  neg_is place arg = search (rules, number_lemmas)

  abbrev link_fits : NumberLink → Bool
  link_fits l = number_fits W l.arg

  chain_is : (first : NumberCode) (rest : List NumberLink) → number_fits W (number.Chain first rest) ≡ (number_fits W first && all_fit (map link_fits rest))
  chain_is first rest = search (rules, number_lemmas)

  valid_is : (arg : ElementCode) → truth_fits W (truth.Valid arg) ≡ is_some (element_kind W arg)
  valid_is arg = search (rules, truth_lemmas)

  not_is : (arg : TruthCode) → truth_fits W (truth.Not arg) ≡ truth_fits W arg
  not_is arg = search (rules, truth_lemmas)

  abbrev truth_operand_fits : TruthLink → Bool
  truth_operand_fits l = truth_fits W l.arg

  truths_are : (first : TruthCode) (rest : List TruthLink) → truth_fits W (truth.Chain first rest) ≡ (truth_fits W first && all_fit (map truth_operand_fits rest))
  truths_are first rest = search (rules, truth_lemmas)

  numbers_compared : (rel : Rel) (left right : NumberCode) → truth_fits W (truth.CompareNumbers rel left right) ≡ (number_fits W left && number_fits W right)
  numbers_compared rel left right = search (rules, truth_lemmas)

  elements_compared : (is_equal : Bool) (left right : ElementCode) → truth_fits W (truth.CompareElements is_equal left right) ≡ same_kind (element_kind W left) (element_kind W right)
  elements_compared is_equal left right = search (rules, truth_lemmas)

  -- what names denote, values by their types, and chains so far
  abbrev pub ResolutionFits : Resolution → Type 0
  ResolutionFits (resolution.Field field kind) = field_kind W field ≡ Some kind
  ResolutionFits (resolution.Scalar scalar) = nat_lt scalar W.scalars ≡ true
  ResolutionFits (resolution.Number slot) = nat_lt slot W.numbers ≡ true
  ResolutionFits (resolution.Element slot kind) = slice_get W.elements slot ≡ Some kind

  pub record NamesFit (names : Names) : Type 0 where
    pub each : (name : List ℕ) (found : Resolution) → resolution_of names name ≡ Some found → ResolutionFits found

  abbrev pub TypedFits : TypedCode → Type 0
  TypedFits (typed.Number code) = number_fits W code ≡ true
  TypedFits (typed.Truth code) = truth_fits W code ≡ true
  TypedFits (typed.Element kind code) = element_kind W code ≡ Some kind

  abbrev pub ChainFits : ChainCode → Type 0
  ChainFits (chain.Numbers first rest) = (number_fits W first ≡ true) × (all_fit (map link_fits rest) ≡ true)
  ChainFits (chain.Truths first rest) = (truth_fits W first ≡ true) × (all_fit (map truth_operand_fits rest) ≡ true)
  ChainFits (chain.Element kind code) = element_kind W code ≡ Some kind

-- EXPRESSIONS, where a condition says that their names fit
module _ (W : Layout) (C : Type 0) where
  pub same_kinds : (kind : Kind) (e : ElementCode) (wanted : Option Kind) → wanted ≡ Some kind → element_kind W e ≡ Some kind → same_kind wanted (element_kind W e) ≡ true
  same_kinds kind e wanted f g = ap (λ k. same_kind k (element_kind W e)) f ∙ ap (same_kind (Some kind)) g ∙ kind_is_itself kind

  number_in_fits : (place : Place) (v : TypedCode) → (C → TypedFits W v) → Holds (λ code. C → number_fits W code ≡ true) (number_in place v)
  number_in_fits place (typed.Number code) h = record { of = h }
  number_in_fits place (typed.Truth code) h = record { of = tt }
  number_in_fits place (typed.Element kind code) h = record { of = tt }

  truth_in_fits : (place : Place) (v : TypedCode) → (C → TypedFits W v) → Holds (λ code. C → truth_fits W code ≡ true) (truth_in place v)
  truth_in_fits place (typed.Number code) h = record { of = tt }
  truth_in_fits place (typed.Truth code) h = record { of = h }
  truth_in_fits place (typed.Element kind code) h = record { of = tt }

  element_in_fits : (place : Place) (v : TypedCode) → (C → TypedFits W v) → Holds (λ (e : Kind × ElementCode). C → element_kind W e.1 ≡ Some e.0) (element_in place v)
  element_in_fits place (typed.Number code) h = record { of = tt }
  element_in_fits place (typed.Truth code) h = record { of = tt }
  element_in_fits place (typed.Element kind code) h = record { of = h }

  pub kind_fits : (kind : Kind) (place : Place) (v : TypedCode) → (C → TypedFits W v) → Holds (λ code. C → element_kind W code ≡ Some kind) (element_of_kind kind place v)
  kind_fits kind place (typed.Number code) h = record { of = tt }
  kind_fits kind place (typed.Truth code) h = record { of = tt }
  kind_fits kind place (typed.Element other code) h = go (is_kind kind other) refl where
    go : (b : Bool) → is_kind kind other ≡ b → Holds (λ code. C → element_kind W code ≡ Some kind) (cond b (Ok code) (fails TypeMismatch place))
    go true e = record { of = λ c. h c ∙ ap Some (sym (kinds_are kind other e)) }
    go false e = record { of = tt }

  pub members_fit : (set : SetName) (place : Place) (v : TypedCode) → (C → TypedFits W v) → Holds (λ code. C → has_members set (element_kind W code) ≡ true) (element_with_set set place v)
  members_fit set place (typed.Number code) h = record { of = tt }
  members_fit set place (typed.Truth code) h = record { of = tt }
  members_fit set place (typed.Element kind code) h = go (has_set kind set) refl where
    go : (b : Bool) → has_set kind set ≡ b → Holds (λ code. C → has_members set (element_kind W code) ≡ true) (cond b (Ok code) (fails TypeMismatch place))
    go true e = record { of = λ c. ap (has_members set) (h c) ∙ e }
    go false e = record { of = tt }

  name_fits : (place : Place) (accesses : Accesses) (found : Option Resolution) → ((r : Resolution) → found ≡ Some r → C → ResolutionFits W r)
      → Holds (λ (v : TypedCode × Accesses). C → TypedFits W v.0) (resolved_name place accesses found)
  name_fits place accesses None h = record { of = tt }
  name_fits place accesses (Some (resolution.Field field kind)) h = record { of = tt }
  name_fits place accesses (Some (resolution.Scalar scalar)) h =
      bound (with_access accesses (OfScalar scalar) Read place) _ (any_result _) (λ later any. record { of = λ c. scalar_is W scalar ∙ h (resolution.Scalar scalar) refl c })
  name_fits place accesses (Some (resolution.Number slot)) h = record { of = λ c. local_is W slot ∙ h (resolution.Number slot) refl c }
  name_fits place accesses (Some (resolution.Element slot kind)) h = record { of = λ c. slot_is W slot ∙ h (resolution.Element slot kind) refl c }

  field_fits : (place : Place) (found : Option Resolution) → ((r : Resolution) → found ≡ Some r → C → ResolutionFits W r) → Holds (λ (f : ℕ × Kind). C → field_kind W f.0 ≡ Some f.1) (named_field place found)
  field_fits place None h = record { of = tt }
  field_fits place (Some (resolution.Field field kind)) h = record { of = h (resolution.Field field kind) refl }
  field_fits place (Some (resolution.Scalar scalar)) h = record { of = tt }
  field_fits place (Some (resolution.Number slot)) h = record { of = tt }
  field_fits place (Some (resolution.Element slot kind)) h = record { of = tt }

  made_by : (fun : ElementFun) (kind result : Kind) (arg : ElementCode) → call_kind fun kind ≡ Some result → (C → element_kind W arg ≡ Some kind) → C → element_kind W (element.Call fun arg) ≡ Some result
  made_by fun kind result arg e h c = call_is W fun arg ∙ ap (option_and_then (call_kind fun)) (h c) ∙ e

  call_fits : (place : Place) (fun : Fun) (kind : Kind) (arg : ElementCode) → (C → element_kind W arg ≡ Some kind) → Holds (λ v. C → TypedFits W v) (call_code place fun kind arg)
  call_fits place Head Edge arg h = record { of = made_by function.Head Edge Vertex arg refl h }
  call_fits place Tail Edge arg h = record { of = made_by function.Tail Edge Vertex arg refl h }
  call_fits place Inside Face arg h = record { of = made_by function.Inside Face Cell arg refl h }
  call_fits place Outside Face arg h = record { of = made_by function.Outside Face Cell arg refl h }
  call_fits place Flip Edge arg h = record { of = made_by function.Flip Edge Edge arg refl h }
  call_fits place Flip Face arg h = record { of = made_by function.Flip Face Face arg refl h }
  call_fits place Valid kind arg h = record { of = λ c. valid_is W arg ∙ ap (λ (k : Option Kind). is_some k) (h c) }
  call_fits place Id kind arg h = record { of = λ c. id_is W place arg ∙ ap (λ (k : Option Kind). is_some k) (h c) }
  call_fits place _ _ arg h = record { of = tt }

  called_fits : (place : Place) (fun : Fun) (v : TypedCode) → (C → TypedFits W v) → Holds (λ v. C → TypedFits W v) (called_code place fun v)
  called_fits place fun (typed.Number code) h = record { of = tt }
  called_fits place fun (typed.Truth code) h = record { of = tt }
  called_fits place fun (typed.Element kind code) h = call_fits place fun kind code h

  towards_fits : (place : Place) (v w : TypedCode) → (C → TypedFits W v) → (C → TypedFits W w) → Holds (λ v. C → TypedFits W v) (towards_code place v w)
  towards_fits place (typed.Number code) w h g = record { of = tt }
  towards_fits place (typed.Truth code) w h g = record { of = tt }
  towards_fits place (typed.Element kind arg) (typed.Number code) h g = record { of = tt }
  towards_fits place (typed.Element kind arg) (typed.Truth code) h g = record { of = tt }
  towards_fits place (typed.Element kind arg) (typed.Element other to) h g = go (are_towards_kinds kind other) refl where
    go : (b : Bool) → are_towards_kinds kind other ≡ b → Holds (λ v. C → TypedFits W v) (cond b (Ok (typed.Element kind (element.Towards arg to))) (fails TypeMismatch place))
    go true e = record {
      of = λ c. towards_is W arg to ∙ ap (λ k. towards_kind k (element_kind W to)) (h c) ∙ ap (towards_kind (Some kind)) (g c) ∙ ap (λ b. cond b (Some kind) None) e;
    }
    go false e = record { of = tt }

  comparison_fits : (place : Place) (rel : Rel) (v w : TypedCode) → (C → TypedFits W v) → (C → TypedFits W w) → Holds (λ v. C → TypedFits W v) (comparison_code place rel v w)
  comparison_fits place rel (typed.Number left) (typed.Number right) h g =
      record { of = λ c. numbers_compared W rel left right ∙ both (number_fits W left) (number_fits W right) (h c) (g c) }
  comparison_fits place rel (typed.Number left) (typed.Truth code) h g = record { of = tt }
  comparison_fits place rel (typed.Number left) (typed.Element kind code) h g = record { of = tt }
  comparison_fits place rel (typed.Truth code) w h g = record { of = tt }
  comparison_fits place rel (typed.Element kind left) (typed.Number code) h g = record { of = tt }
  comparison_fits place rel (typed.Element kind left) (typed.Truth code) h g = record { of = tt }
  comparison_fits place rel (typed.Element kind left) (typed.Element other right) h g = go (is_sameness rel && is_kind kind other) refl where
    go : (b : Bool) → (is_sameness rel && is_kind kind other) ≡ b
        → Holds (λ v. C → TypedFits W v) (cond b (Ok (typed.Truth (truth.CompareElements (is_equality rel) left right))) (fails TypeMismatch place))
    go true e = record {
      of = λ c. elements_compared W (is_equality rel) left right ∙ ap (λ k. same_kind k (element_kind W right)) (h c) ∙ ap (same_kind (Some kind)) (g c)
          ∙ (and_parts (is_sameness rel) (is_kind kind other) e).1;
    }
    go false e = record { of = tt }

  negation_fits : (place : Place) (v : TypedCode) → (C → TypedFits W v) → Holds (λ v. C → TypedFits W v) (negated place v)
  negation_fits place v h = bound (number_in place v) _ (number_in_fits place v h) (λ code n. record { of = λ c. neg_is W place code ∙ n c })

  inversion_fits : (place : Place) (v : TypedCode) → (C → TypedFits W v) → Holds (λ v. C → TypedFits W v) (inverted place v)
  inversion_fits place v h = bound (truth_in place v) _ (truth_in_fits place v h) (λ code n. record { of = λ c. not_is W code ∙ n c })

  -- chains
  number_operand_fits : (place : Place) (sign : Sign) (v : TypedCode) → (C → TypedFits W v) → Holds (λ (l : NumberLink). C → link_fits W l ≡ true) (number_operand place sign v)
  number_operand_fits place sign v h = bound (number_in place v) _ (number_in_fits place v h) (λ arg n. go (arithmetic_of sign) arg n) where
    go : (op : Option Arithmetic) (arg : NumberCode) → (C → number_fits W arg ≡ true) → Holds (λ (l : NumberLink). C → link_fits W l ≡ true) (number_link place op arg)
    go None arg n = record { of = tt }
    go (Some op) arg n = record { of = n }

  truth_operand_holds : (place : Place) (sign : Sign) (v : TypedCode) → (C → TypedFits W v) → Holds (λ (l : TruthLink). C → truth_operand_fits W l ≡ true) (truth_operand place sign v)
  truth_operand_holds place sign v h = bound (truth_in place v) _ (truth_in_fits place v h) (λ arg n. go (connective_of sign) arg n) where
    go : (op : Option Connective) (arg : TruthCode) → (C → truth_fits W arg ≡ true) → Holds (λ (l : TruthLink). C → truth_operand_fits W l ≡ true) (truth_link place op arg)
    go None arg n = record { of = tt }
    go (Some op) arg n = record { of = n }

  first_fits : (v : TypedCode) → (C → TypedFits W v) → C → ChainFits W (first_of_chain v)
  first_fits (typed.Number code) h c = (h c, refl)
  first_fits (typed.Truth code) h c = (h c, refl)
  first_fits (typed.Element kind code) h c = h c

  longer_fits : (place : Place) (sign : Sign) (done : ChainCode) (v : TypedCode) → (C → ChainFits W done) → (C → TypedFits W v) → Holds (λ next. C → ChainFits W next) (extended_chain place sign done v)
  longer_fits place sign (chain.Numbers first rest) v h g =
      bound (number_operand place sign v) _ (number_operand_fits place sign v g) (λ next n. record { of = λ c. ((h c).0, one_more_fits (link_fits W) rest next ((h c).1) (n c)) })
  longer_fits place sign (chain.Truths first rest) v h g =
      bound (truth_operand place sign v) _ (truth_operand_holds place sign v g) (λ next n. record { of = λ c. ((h c).0, one_more_fits (truth_operand_fits W) rest next ((h c).1) (n c)) })
  longer_fits place sign (chain.Element kind code) v h g = record { of = tt }

  whole_fits : (done : ChainCode) → (C → ChainFits W done) → C → TypedFits W (whole_chain done)
  whole_fits (chain.Numbers first []) h c = (h c).0
  whole_fits (chain.Numbers first (l ∷ rest)) h c = chain_is W first (l ∷ rest) ∙ both (number_fits W first) (all_fit (map (link_fits W) (l ∷ rest))) ((h c).0) ((h c).1)
  whole_fits (chain.Truths first []) h c = (h c).0
  whole_fits (chain.Truths first (l ∷ rest)) h c = truths_are W first (l ∷ rest) ∙ both (truth_fits W first) (all_fit (map (truth_operand_fits W) (l ∷ rest))) ((h c).0) ((h c).1)
  whole_fits (chain.Element kind code) h c = h c

  abbrev ValueFits : TypedCode × Accesses → Type 0
  ValueFits v = C → TypedFits W v.0

  mutual
    pub expression_fits : {names : Names} → (C → NamesFit W names) → (accesses : Accesses) (e : Expression) → Holds ValueFits (resolved_expression names accesses e)
    expression_fits n accesses (Number place value) = record { of = λ c. constant_is W value }
    expression_fits {names = names} n accesses (Name place name) = name_fits place accesses (resolution_of names name) (λ r e c. (n c).each name r e)
    expression_fits {names = names} n accesses (Field place name arg) =
        bound (named_field place (resolution_of names name)) _ (field_fits place (resolution_of names name) (λ r e c. (n c).each name r e))
        (λ field f. bound (resolved_expression names accesses arg) _ (expression_fits n accesses arg)
        (λ operand o. bound (element_of_kind field.1 place operand.0) _ (kind_fits field.1 place operand.0 o)
        (λ target t. bound (with_access operand.1 (OfField field.0) Read place) _ (any_result _)
        (λ later any. record { of = λ c. field_is W place field.0 target ∙ same_kinds field.1 target (field_kind W field.0) (f c) (t c) }))))
    expression_fits {names = names} n accesses (Call place fun arg) =
        bound (resolved_expression names accesses arg) _ (expression_fits n accesses arg) (λ v o. bound (called_code place fun v.0) _ (called_fits place fun v.0 o) (λ call k. record { of = k }))
    expression_fits {names = names} n accesses (Towards place arg to) =
        bound (resolved_expression names accesses arg) _ (expression_fits n accesses arg)
        (λ v o. bound (resolved_expression names v.1 to) _ (expression_fits n v.1 to) (λ w p. bound (towards_code place v.0 w.0) _ (towards_fits place v.0 w.0 o p) (λ call k. record { of = k })))
    expression_fits {names = names} n accesses (Neg place arg) =
        bound (resolved_expression names accesses arg) _ (expression_fits n accesses arg) (λ v o. bound (negated place v.0) _ (negation_fits place v.0 o) (λ value k. record { of = k }))
    expression_fits {names = names} n accesses (Not place arg) =
        bound (resolved_expression names accesses arg) _ (expression_fits n accesses arg) (λ v o. bound (inverted place v.0) _ (inversion_fits place v.0 o) (λ value k. record { of = k }))
    expression_fits {names = names} n accesses (Chain level first links) =
        bound (resolved_expression names accesses first) _ (expression_fits n accesses first) (λ v o. links_fit n v.1 (first_of_chain v.0) links (first_fits v.0 o))
    expression_fits {names = names} n accesses (Compare place rel left right) =
        bound (resolved_expression names accesses left) _ (expression_fits n accesses left)
        (λ v o. bound (resolved_expression names v.1 right) _ (expression_fits n v.1 right) (λ w p. bound (comparison_code place rel v.0 w.0) _ (comparison_fits place rel v.0 w.0 o p) (λ call k. record { of = k })))

    links_fit : {names : Names} → (C → NamesFit W names) → (accesses : Accesses) (done : ChainCode) (links : Links) → (C → ChainFits W done) → Holds ValueFits (resolved_links names accesses done links)
    links_fit n accesses done no_links h = record { of = whole_fits done h }
    links_fit {names = names} n accesses done (link sign place arg rest) h =
        bound (resolved_expression names accesses arg) _ (expression_fits n accesses arg)
        (λ v o. bound (extended_chain place sign done v.0) _ (longer_fits place sign done v.0 h o) (λ next k. links_fit n v.1 next rest k))

  pub number_value_fits : {names : Names} → (C → NamesFit W names) → (accesses : Accesses) (e : Expression) → Holds (λ (v : NumberCode × Accesses). C → number_fits W v.0 ≡ true) (resolved_number names accesses e)
  number_value_fits {names = names} n accesses e =
      bound (resolved_expression names accesses e) _ (expression_fits n accesses e) (λ v o. bound (number_in (place_of e) v.0) _ (number_in_fits (place_of e) v.0 o) (λ code k. record { of = k }))

  pub truth_value_fits : {names : Names} → (C → NamesFit W names) → (accesses : Accesses) (e : Expression) → Holds (λ (v : TruthCode × Accesses). C → truth_fits W v.0 ≡ true) (resolved_truth names accesses e)
  truth_value_fits {names = names} n accesses e =
      bound (resolved_expression names accesses e) _ (expression_fits n accesses e) (λ v o. bound (truth_in (place_of e) v.0) _ (truth_in_fits (place_of e) v.0 o) (λ code k. record { of = k }))

  pub element_value_fits : {names : Names} → (C → NamesFit W names) → (accesses : Accesses) (e : Expression)
      → Holds (λ (v : (Kind × ElementCode) × Accesses). C → element_kind W v.0.1 ≡ Some v.0.0) (resolved_element names accesses e)
  element_value_fits {names = names} n accesses e =
      bound (resolved_expression names accesses e) _ (expression_fits n accesses e) (λ v o. bound (element_in (place_of e) v.0) _ (element_in_fits (place_of e) v.0 o) (λ code k. record { of = k }))
